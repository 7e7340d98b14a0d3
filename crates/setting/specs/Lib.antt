-- A setting: its parts, the rules with their refusal numbers, and what decides on the next header's version.
pub mod Setting
pub mod Size
pub mod Refusal
pub mod Rules
pub mod Announcing
