pub mod Items
pub mod Objects
pub mod Makeable
pub mod Building
pub mod Commits
pub mod Brief
