-- The composer: its slots, its state, its state's bytes, and what each call answers and leaves.
pub mod Slots
pub mod Composing
pub mod States
pub mod Calls
pub mod Demands
