pub mod Laws
pub mod Halves
mod Eight
