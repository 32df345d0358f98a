pub mod Runnings
