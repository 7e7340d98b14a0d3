-- The CRC of H.222.0.
pub mod Crc
pub mod Words
