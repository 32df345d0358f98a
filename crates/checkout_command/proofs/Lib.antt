mod Rooms
mod Making
mod Placed
mod Reading
mod MakeKinds
pub mod Ends
pub mod Writing
