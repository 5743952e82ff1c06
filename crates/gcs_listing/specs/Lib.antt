pub mod Seeking
pub mod Looking
pub mod Paging
pub mod Tokens
