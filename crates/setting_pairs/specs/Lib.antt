-- The identifiers of the streams, as they stand in bytes.
pub mod Identifiers
