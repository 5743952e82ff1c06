pub mod Bodies
pub mod Faults
pub mod Limits
pub mod NumberLemmas
pub mod PairLemmas
pub mod PartLemmas
pub mod Readings
