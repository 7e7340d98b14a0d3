-- The listing of a recording: its text, and text put into a buffer.
pub mod Text
pub mod Listing
