pub mod Entries
pub mod Products
pub mod Shifts
pub mod Sliced
pub mod TextLemmas
