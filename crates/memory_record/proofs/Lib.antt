pub mod Records
pub mod Applied
pub mod Moments
mod Untouched
mod Children
pub mod Listings
mod Olders
mod Following
mod Choices
mod Trailing
mod Quiets
pub mod Leaving
mod Sorting
