pub mod Lengths
pub mod Lookup
pub mod Putting
pub mod Steps
pub mod Listing
pub mod Whole
