-- The TSMF header of J.183: its table, what stands in it, and what a packet says when it is read by it.
pub mod Rows
pub mod Layout
pub mod Header
pub mod Bytes
pub mod Meets
pub mod Places
