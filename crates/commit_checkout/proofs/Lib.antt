pub mod TreeMaps
