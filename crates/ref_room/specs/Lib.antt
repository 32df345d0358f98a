pub mod Stands
pub mod Turns
pub mod Clash
pub mod Way
pub mod Clearing
