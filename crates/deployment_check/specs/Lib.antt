pub mod Deployments
pub mod Judging
