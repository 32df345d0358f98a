pub mod Before
pub mod Lists
pub mod Booted
pub mod Distinct
