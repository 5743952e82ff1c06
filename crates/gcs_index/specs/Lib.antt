pub mod Ranked
pub mod Entries
pub mod Blocks
pub mod Probing
pub mod Looks
