pub mod Lent
pub mod InTurn
pub mod Back
pub mod Steps
pub mod OfFolders
pub mod FolderLent
pub mod FolderBack
pub mod Served
