pub mod Bytes
pub mod Filled
pub mod Tree
pub mod Ties
