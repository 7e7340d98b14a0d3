-- The small examples of the scope document.
pub mod Examples
