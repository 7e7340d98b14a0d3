pub mod Asked
pub mod Accepted
pub mod Identifiers
pub mod Sevens
