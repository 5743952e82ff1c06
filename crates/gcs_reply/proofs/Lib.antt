pub mod Reading
pub mod Endings
pub mod Some
pub mod Heads
