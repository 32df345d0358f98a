pub mod Spots
pub mod Keeping
pub mod Parts
pub mod Filling
pub mod Selecting
pub mod Making
pub mod Showing
pub mod Syncing
pub mod Refusing
pub mod Falling
pub mod Booting
pub mod Safe
pub mod Leaving
pub mod Runs
mod Lists
