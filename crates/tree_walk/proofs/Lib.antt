mod Empty
mod Folders
pub mod Standings
pub mod Alike
pub mod Rightly
