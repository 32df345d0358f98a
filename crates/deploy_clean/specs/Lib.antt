pub mod Unlisted
pub mod Opened
pub mod NextName
pub mod Cleaning
pub mod Steps
