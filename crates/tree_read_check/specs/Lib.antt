pub mod Wrongs
