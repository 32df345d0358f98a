pub mod TreeFolder
