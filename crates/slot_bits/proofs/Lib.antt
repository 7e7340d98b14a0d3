pub mod Bits
mod Bytes
pub mod Marking
