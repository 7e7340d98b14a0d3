mod Inside
pub mod Passed
mod Counting
mod Placing
mod Streams
