pub mod KindsBack
pub mod Numbers
pub mod Back
pub mod Parts
pub mod Same
pub mod Differing
pub mod Typed
pub mod InBytes
