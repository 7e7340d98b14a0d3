pub mod Fit
mod Left
