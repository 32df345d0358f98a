pub mod Items
pub mod Entries
pub mod Listing
