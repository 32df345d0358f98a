pub mod Boots
pub mod Sizes
pub mod Sum
pub mod Summing
pub mod Telling
