-- The calls that write and read a header: what they answer and leave.
pub mod Calls
pub mod Demands
