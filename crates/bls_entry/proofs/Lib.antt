mod Numbers
mod Words
mod Settings
mod Keys
mod Followed
mod Whole
pub mod Written
pub mod OneReading
