pub mod Brought
pub mod Standing
pub mod Writing
pub mod Keeping
pub mod Known
pub mod Full
pub mod Removals
pub mod Free
