pub mod StepLemmas
pub mod Wholes
pub mod StageLemmas
pub mod Stable
pub mod Begins
