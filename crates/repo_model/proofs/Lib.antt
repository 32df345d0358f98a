pub mod Stored
pub mod Grown
pub mod Named
