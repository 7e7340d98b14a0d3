-- The rows of 17 for what a kind does not have, on a setting's bytes.
pub mod Absent
