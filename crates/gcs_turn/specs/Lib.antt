pub mod Turning
pub mod Seating
pub mod Passes
