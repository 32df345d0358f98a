pub mod TreeKept
pub mod TreeMaking
pub mod TreeCopies
pub mod TreeStable
pub mod TreeAnswering
