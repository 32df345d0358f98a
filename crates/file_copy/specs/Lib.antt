pub mod Pieces
pub mod Copying
pub mod CopySteps
pub mod Comparing
pub mod Putting
pub mod PutSteps
