pub mod States
pub mod Goods
pub mod Mays
pub mod Knowns
mod Lists
pub mod Locking
pub mod Claiming
pub mod Sounds
pub mod Acting
pub mod Publishing
pub mod Taking
pub mod Noting
mod Rooms
pub mod Pinning
pub mod Calls
pub mod Headlines
pub mod Openings
pub mod Lasting
pub mod Removing
mod Taken
pub mod Finished
pub mod Beginnings
