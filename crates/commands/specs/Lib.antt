pub mod Family
pub mod Words
pub mod Answers
pub mod Lanes
pub mod Faults
