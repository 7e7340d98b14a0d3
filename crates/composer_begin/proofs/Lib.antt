mod Nulls
mod Opened
pub mod Passed
mod Turns
