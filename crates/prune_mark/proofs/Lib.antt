mod Told
pub mod Search
mod Flagged
mod Spreading
mod Parents
pub mod Steps
mod Beginning
pub mod Downs
pub mod Lasting
mod Removed
