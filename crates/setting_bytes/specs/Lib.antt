-- Numbers and kinds as bytes.
-- Settings as bytes, in a fixed layout.
pub mod Words
pub mod Kinds
pub mod Settings
pub mod Demands
