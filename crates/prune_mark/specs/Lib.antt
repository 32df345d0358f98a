pub mod Reads
pub mod Flags
pub mod Marking
pub mod Doomed
pub mod Lasting
