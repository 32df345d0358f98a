pub mod Line
pub mod Faults
pub mod Entries
pub mod Reading
pub mod Said
pub mod Names
pub mod Tracks
