pub mod Lookups
pub mod LongFiles
pub mod Streaming
pub mod PutLemmas
pub mod PlaceLemmas
pub mod Runs
pub mod Begins
pub mod Stable
pub mod NameOrder
mod ListLemmas
