-- Runs of frames. Firmware, Losses, Demands, Instances and Accepted speak of the calls on bytes. Runs, Work and Composed speak of the same
-- calls over values, and of what each slot of a closed frame holds.
pub mod Runs
pub mod Work
pub mod Losses
pub mod Firmware
pub mod Demands
pub mod Accepted
pub mod Composed
pub mod Instances
