pub mod Times
pub mod Whole
pub mod Written
pub mod Tokens
