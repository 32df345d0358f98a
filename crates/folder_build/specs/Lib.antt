pub mod Node
pub mod Build
pub mod Steps
pub mod Link
pub mod LinkSteps
