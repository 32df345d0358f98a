mod Numbers
mod Splits
pub mod Words
