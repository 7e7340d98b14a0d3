-- Slots as bits of one number.
pub mod Bits
