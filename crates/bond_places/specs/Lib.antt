-- The places of bonded carriers: their order, and a walk that visits them in that order.
pub mod Order
pub mod Walk
