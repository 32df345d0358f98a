pub mod Count
pub mod View
pub mod Image
pub mod Effect
pub mod Seen
pub mod Change
pub mod Streams
