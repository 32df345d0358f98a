pub mod Changed
pub mod Front
pub mod Header
pub mod HostPath
pub mod Refusal
pub mod Reserved
pub mod Young
