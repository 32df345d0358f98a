mod Entries
mod Cats
mod Logs
mod Lists
mod Begun
pub mod Ends
