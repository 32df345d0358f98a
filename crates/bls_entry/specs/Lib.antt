pub mod Line
pub mod Options
pub mod Entry
pub mod Reading
pub mod Tracks
