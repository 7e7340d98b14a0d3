pub mod Standing
pub mod Grouping
pub mod Marks
pub mod Planned
pub mod Passing
pub mod Lent
pub mod Through
pub mod Remainders
mod Uncarried
