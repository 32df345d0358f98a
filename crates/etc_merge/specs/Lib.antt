pub mod Merging
pub mod Entries
pub mod Steps
