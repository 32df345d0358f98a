pub mod Values
pub mod Nodes
pub mod Script
pub mod Same
pub mod Drafts
pub mod Writing
