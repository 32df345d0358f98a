mod Configs
pub mod NewConfig
