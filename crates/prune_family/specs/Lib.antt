pub mod Family
pub mod Kinds
pub mod Says
pub mod Removing
pub mod Learning
pub mod Laws
