pub mod Spots
pub mod Many
pub mod Checks
pub mod InLayout
