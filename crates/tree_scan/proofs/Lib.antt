mod Orders
mod Lists
mod Trees
mod Passing
mod Reading
mod Stopping
pub mod Ending
mod Coming
pub mod Kept
mod Falls
mod Bounds
mod Looks
