pub mod Field
pub mod Words
pub mod Lines
