-- Packed fields: what a run of values of a fixed width is as bits, and how values are cut from bits again.
pub mod Fields
pub mod Halves
