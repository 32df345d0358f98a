pub mod Looks
pub mod Rows
pub mod Turns
pub mod Walks
pub mod Completes
pub mod Cuts
pub mod Lines
