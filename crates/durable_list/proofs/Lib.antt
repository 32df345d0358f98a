pub mod Same
pub mod Standing
pub mod Staying
pub mod Swapping
pub mod Unwritten
