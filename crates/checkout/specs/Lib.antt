pub mod CheckoutFolder
pub mod CheckoutWork
pub mod CheckoutSteps
pub mod RemoveFolder
pub mod Remove
pub mod RemoveSteps
