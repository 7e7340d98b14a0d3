-- What is done to slices of bytes: copied, filled, tested.
pub mod Slices
