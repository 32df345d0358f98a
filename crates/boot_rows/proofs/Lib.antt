pub mod Placed
mod Filed
mod Words
mod Links
mod Leading
pub mod Reading
pub mod Telling
pub mod Short
