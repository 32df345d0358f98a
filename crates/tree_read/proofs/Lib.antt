pub mod Told
mod Lasts
pub mod Merged
mod Shorts
pub mod Walk
pub mod Lines
pub mod Stops
pub mod Recalling
pub mod TreeStores
pub mod Steps
pub mod Openings
pub mod Telling
mod Running
