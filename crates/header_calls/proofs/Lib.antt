pub mod Called
pub mod BytesBack
pub mod BytesAgain
pub mod ReadCall
pub mod RemainderShown
