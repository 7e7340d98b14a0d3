mod Pair
pub mod Examples
