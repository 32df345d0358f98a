mod Plain
pub mod RefPaths
pub mod KnownPaths
mod Texts
pub mod Places
