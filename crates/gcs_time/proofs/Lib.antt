pub mod Digits
pub mod Named
pub mod Places
pub mod RoundTrip
pub mod Walks
