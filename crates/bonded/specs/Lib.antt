-- A bonded stream over the runs of several carriers, received carrier by carrier.
pub mod Carriers
pub mod Demands
