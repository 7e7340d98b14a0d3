-- Bonding for callers in other languages.
pub mod Bonds
