mod Closing
mod Decoded
mod Ending
mod Numbers
pub mod Passed
mod Saying
mod Unlike
