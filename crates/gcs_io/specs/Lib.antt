pub mod Causes
pub mod Failing
pub mod MemoryClock
pub mod MemorySink
pub mod MemorySource
pub mod Pieces
pub mod Readings
pub mod Told
