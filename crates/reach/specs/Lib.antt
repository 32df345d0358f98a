pub mod Reach
pub mod Lines
pub mod Removed
pub mod Marking
