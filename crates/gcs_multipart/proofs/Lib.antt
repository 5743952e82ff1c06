mod Running
mod Seeking
mod Passing
mod Heads
mod Feeding
mod Fronts
pub mod OneBody
mod Standing
pub mod FirstContents
mod WordLemmas
mod FieldLemmas
mod ParameterItems
mod ParametersTold
mod ParametersRead
mod ReadingLemmas
mod ContentTypes
