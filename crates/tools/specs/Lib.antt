-- The sizes of the programs' buffers.
pub mod Sizes
