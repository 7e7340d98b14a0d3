-- Settings and their numbers for callers in other languages.
pub mod Calls
