mod Streams
pub mod Within
