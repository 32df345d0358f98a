pub mod Copies
pub mod Compared
pub mod Work
pub mod Steps
