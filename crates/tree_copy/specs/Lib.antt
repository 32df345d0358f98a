pub mod TreeFolder
pub mod TreeNode
pub mod TreeWork
pub mod TreeSteps
