pub mod Object
pub mod Checks
pub mod Again
