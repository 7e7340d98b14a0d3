-- One stream spread over the slots of bonded carriers, and gathered again.
pub mod Listing
pub mod Bonding
pub mod Demands
