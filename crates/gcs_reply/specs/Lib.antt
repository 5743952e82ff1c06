pub mod Excerpt
pub mod Form
pub mod Outgoing
pub mod Replies
