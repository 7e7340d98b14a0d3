-- The header's writer: what it answers, and what it leaves.
pub mod Writing
