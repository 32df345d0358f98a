pub mod Edit
pub mod There
pub mod Editing
pub mod Verdict
pub mod Refusals
pub mod Steps
pub mod Whole
