pub mod Bounds
pub mod Standing
