pub mod LivePages
