pub mod Comparing
pub mod Choosing
