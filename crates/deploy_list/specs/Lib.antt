pub mod Kernels
pub mod Lists
pub mod BootSum
pub mod EntryReads
