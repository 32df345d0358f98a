pub mod Advancing
pub mod Committing
pub mod Nexts
pub mod Steps
pub mod Whole
