-- The TSMF header of J.183: what is promised of writing and reading it.
pub mod Demands
