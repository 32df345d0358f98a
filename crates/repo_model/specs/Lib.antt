pub mod Objects
pub mod Trees
pub mod Whole
