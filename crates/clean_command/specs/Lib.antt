pub mod Commands
pub mod Facts
pub mod Places
pub mod Kept
pub mod Following
pub mod Nexts
pub mod Duties
pub mod Laws
