pub mod Lengths
pub mod Lines
pub mod Ordered
pub mod States
