pub mod Family
pub mod Kinds
pub mod Places
pub mod Boots
pub mod Answering
pub mod Laws
