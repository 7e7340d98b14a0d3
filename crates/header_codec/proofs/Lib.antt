pub mod Again
pub mod RoundTrip
