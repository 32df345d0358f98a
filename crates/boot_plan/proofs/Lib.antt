pub mod Plain
pub mod Growing
pub mod EntryNodes
pub mod LinkNodes
