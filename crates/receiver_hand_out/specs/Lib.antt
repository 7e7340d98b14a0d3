-- What handing out a ready frame rests on.
pub mod Halves
pub mod Ready
pub mod Handing
