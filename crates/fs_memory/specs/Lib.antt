pub use Rattle.memory_record.specs.Answer
pub use Rattle.memory_record.specs.Crash
pub use Rattle.memory_record.specs.Laws
pub mod Changes
pub mod Calls
pub mod Recorded
pub mod Memory
pub mod Streams
