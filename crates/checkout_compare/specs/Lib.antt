pub mod Compare
pub mod Order
pub mod Looking
pub mod SoFar
