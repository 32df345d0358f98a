mod PathLemmas
pub mod FindLemmas
pub mod OnceLemmas
mod StepLemmas
mod SumLemmas
pub mod Kept
