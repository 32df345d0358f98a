pub mod Listed
pub mod Phases
pub mod Deploying
pub mod Lists
pub mod Steps
pub mod Spared
