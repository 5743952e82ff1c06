pub mod Closed
pub mod Closing
pub mod Desk
pub mod Entries
pub mod Passes
pub mod Shard
pub mod Store
