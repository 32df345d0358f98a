pub mod Changes
pub mod Seen
pub mod Answer
pub mod Laws
pub mod Crash
pub mod Traces
pub mod Tied
pub mod Trail
