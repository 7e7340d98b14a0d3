pub mod Refusals
pub mod Checked
pub mod Fields
pub mod Sizes
