pub mod Xor
pub mod Laws
pub mod Folding
pub mod Reduced
pub mod Entered
