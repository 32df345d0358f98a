pub mod Staged
pub mod Steps
pub mod Whole
