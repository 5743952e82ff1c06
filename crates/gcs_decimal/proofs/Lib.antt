pub mod DecimalLemmas
pub mod Digits
