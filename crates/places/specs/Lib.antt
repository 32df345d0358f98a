pub mod Roomy
pub mod Text
