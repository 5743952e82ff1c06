pub mod Accepted
pub mod Ages
pub mod Called
pub mod Copies
pub mod Earliest
pub mod Prefixes
