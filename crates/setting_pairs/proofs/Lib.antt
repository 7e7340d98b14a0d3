mod Pairs
pub mod Apart
