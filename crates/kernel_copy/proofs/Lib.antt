pub mod CopyNames
pub mod Apart
pub mod PutFacts
pub mod PutMeans
pub mod Working
pub mod Telling
pub mod Finding
pub mod Stable
