mod Bounds
mod Starts
mod Cuts
pub mod TreeMaps
pub mod DefaultLemmas
pub mod EtcLemmas
