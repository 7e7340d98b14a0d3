-- The counters of J.183, and which streams are available.
pub mod Counters
