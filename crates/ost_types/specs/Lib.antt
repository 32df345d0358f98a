pub mod Text
pub mod Path
pub mod Flat
pub mod Split
pub mod Parse
pub mod Csum
pub mod Mode
pub mod PathMap
