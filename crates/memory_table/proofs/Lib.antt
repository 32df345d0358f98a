pub mod Keyed
pub mod Splitting
pub mod Holding
pub mod Tying
