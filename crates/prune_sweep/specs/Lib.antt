pub mod Listing
pub mod Lost
pub mod Sweeping
pub mod Steps
pub mod Planned
pub mod Swept
