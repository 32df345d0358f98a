pub mod Published
pub mod Deploys
