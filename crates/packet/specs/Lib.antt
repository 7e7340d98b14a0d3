-- Packets, and what is left of a stream of them.
pub mod Packets
