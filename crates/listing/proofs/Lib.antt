pub mod Putting
pub mod Decimal
pub mod Packets
pub mod Blocks
pub mod Calls
pub mod Hexadecimal
