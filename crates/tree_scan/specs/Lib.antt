pub mod Scan
pub mod Faults
pub mod Looking
pub mod Scanning
pub mod SoFar
pub mod Steps
