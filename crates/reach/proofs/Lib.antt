pub mod Reaching
pub mod Commits
pub mod Parts
pub mod Lining
pub mod Exact
pub mod Marked
