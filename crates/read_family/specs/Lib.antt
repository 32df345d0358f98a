pub mod Family
pub mod Kinds
pub mod Lackings
pub mod Endings
pub mod Alone
pub mod Answering
pub mod Laws
