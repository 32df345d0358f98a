mod Making
pub mod Named
mod Told
