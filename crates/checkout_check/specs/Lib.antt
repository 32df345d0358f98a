pub mod Sketches
