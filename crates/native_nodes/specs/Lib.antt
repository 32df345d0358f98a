pub mod Attributes
pub mod Look
