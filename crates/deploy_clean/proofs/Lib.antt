pub mod NameTexts
mod PathBounds
mod Listings
mod Lasts
pub mod Places
pub mod Knowing
mod Telling
pub mod Keeping
