mod LineLemmas
pub mod Spelling
pub mod FieldValues
mod Fields
pub mod Numbers
pub mod Slices
pub mod Alone
pub mod OneCommand
