mod Places
mod Looking
pub mod Judging
pub mod Changing
mod Telling
pub mod Keeping
pub mod Olds
