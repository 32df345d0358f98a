pub mod Entries
pub mod Links
pub mod Rows
pub mod Rules
pub mod Faults
pub mod Steps
