mod Numbered
mod Places
mod Versions
mod Words
pub mod EntryReads
pub mod HasKernels
