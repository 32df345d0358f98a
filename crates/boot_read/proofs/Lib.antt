mod PathLemmas
mod Looking
mod Following
mod Lists
mod Unique
mod Entering
mod WordLemmas
mod Owning
mod Sorting
pub mod Answered
