pub mod Orders
mod Lists
pub mod Values
mod Listings
pub mod Walking
mod Ends
pub mod Checkouts
