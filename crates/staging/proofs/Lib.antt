pub mod StepLemmas
pub mod Answering
pub mod Stable
pub mod Begins
