pub mod Layouts
mod NameTests
pub mod Suiting
pub mod RulePlaces
pub mod Sanes
