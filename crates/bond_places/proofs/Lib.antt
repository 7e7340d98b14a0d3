pub mod Order
pub mod Sorting
pub mod Frames
pub mod Sweep
