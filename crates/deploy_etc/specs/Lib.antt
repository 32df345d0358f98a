pub mod Defaults
pub mod NewEtc
