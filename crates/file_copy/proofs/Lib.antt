pub mod PieceLemmas
pub mod CopyLemmas
pub mod CompareLemmas
pub mod Stable
pub mod PutLemmas
pub mod PutStable
