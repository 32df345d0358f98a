pub mod Makes
pub mod Backs
