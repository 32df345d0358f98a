pub mod Reached
pub mod Commits
