-- The header's reader: what it answers.
pub mod Reader
