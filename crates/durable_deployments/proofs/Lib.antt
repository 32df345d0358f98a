pub mod Stores
pub mod Same
pub mod Standing
pub mod Unwritten
pub mod Staying
