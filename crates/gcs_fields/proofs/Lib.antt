mod RestLemmas
mod Keeping
mod Printing
mod Holding
mod Running
mod Complete
mod Wholes
pub mod CopyLemmas
mod Floats
pub mod OneMask
