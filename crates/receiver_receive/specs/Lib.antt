pub mod Usual
pub mod Receive
