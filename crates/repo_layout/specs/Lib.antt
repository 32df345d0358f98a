pub mod RefName
pub mod OsName
pub mod RefFile
pub mod Paths
pub mod BootPaths
pub mod Fixed
pub mod Refs
pub mod Place
