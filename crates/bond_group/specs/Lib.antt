-- A group of bonded carriers: what its headers show, and where the slots of one stream stand in it.
pub mod Group
pub mod Standing
pub mod Plan
pub mod Demands
