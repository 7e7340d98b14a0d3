pub mod One
mod Again
mod Saying
pub mod Calls
pub mod Functions
pub mod Starts
pub mod Generic
