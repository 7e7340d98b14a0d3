pub mod Any
pub mod Front
mod Most
pub mod Toward
mod Whole
pub mod Differing
