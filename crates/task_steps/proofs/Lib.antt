pub mod Lists
pub mod SmallTree
pub mod SmallEdits
