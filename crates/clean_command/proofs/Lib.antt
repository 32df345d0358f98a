mod Looking
mod Refusing
pub mod Ends
pub mod Sparing
