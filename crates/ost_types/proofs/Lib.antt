pub mod Paths
pub mod Flats
pub mod HexSums
pub mod Pieces
pub mod Splitting
pub mod Joined
pub mod Ascending
