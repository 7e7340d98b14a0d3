pub mod Kept
pub mod Alike
pub mod Demands
pub mod Witness
