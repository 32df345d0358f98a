mod Splits
mod Behind
mod Taken
mod Whole
mod Written
pub mod Entered
pub mod OneReading
