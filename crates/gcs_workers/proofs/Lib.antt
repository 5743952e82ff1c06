pub mod Opened
pub mod PositionalLemmas
pub mod ServingLemmas
pub mod WorkedLemmas
