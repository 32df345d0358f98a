pub mod Phases
pub mod Ready
pub mod Swap
pub mod Steps
pub mod Whole
pub mod Lists
