pub mod Deployment
pub mod Work
pub mod Steps
