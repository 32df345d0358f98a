pub mod Apart
pub mod Publishing
pub mod Deploying
