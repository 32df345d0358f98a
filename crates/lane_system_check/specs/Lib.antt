pub mod Waiting
pub mod Family
pub mod Laws
