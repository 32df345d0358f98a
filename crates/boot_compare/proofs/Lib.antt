pub mod Answering
pub mod Matching
pub mod Taking
pub mod Telling
