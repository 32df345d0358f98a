pub mod Nodes
pub mod Making
pub mod Clearing
pub mod Linking
pub mod Lying
pub mod Keeping
