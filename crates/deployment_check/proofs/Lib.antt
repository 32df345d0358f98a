pub mod Rooms
pub mod Trees
mod Lacking
mod Telling
mod Maps
pub mod Once
