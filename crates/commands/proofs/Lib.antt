pub mod Lists
pub mod Rooms
pub mod Rows
pub mod Telling
pub mod Outsides
pub mod Bringing
