pub mod Fills
pub mod Rooms
mod Orders
