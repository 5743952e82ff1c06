pub mod Histories
pub mod Keeps
pub mod Joining
pub mod Finishes
pub mod Calls
pub mod AllPasses
