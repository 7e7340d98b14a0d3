-- The receiver: its table, its state, its store, its state's bytes, and what each call answers and leaves.
pub mod Table
pub mod Packed
pub mod Store
pub mod Arriving
pub mod Receiving
pub mod Bytes
pub mod Calls
pub mod Demands
