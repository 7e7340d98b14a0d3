-- Two outcomes that a contract allows are equal.
pub mod Outcomes
pub mod Calls
pub mod Functions
pub mod Starts
pub mod Generic
