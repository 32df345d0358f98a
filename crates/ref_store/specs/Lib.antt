pub mod Lookup
pub mod Change
pub mod Steps
