pub mod Reception
pub mod Cycles
pub mod Carried
pub mod Composed
pub mod Values
mod Filled
mod Front
mod Held
pub mod Said
pub mod Lost
pub mod Sixteen
pub mod Table
pub mod Vouched
pub mod Tuned
mod Placed
mod Made
pub mod Demands
mod Instances
mod InOrder
pub mod Accepted
