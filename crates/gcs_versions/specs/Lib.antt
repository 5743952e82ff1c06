pub mod Indexes
pub mod Kept
pub mod Keys
pub mod Ready
pub mod Rows
