pub mod Counting
pub mod CountedGroups
pub mod GivenFolders
pub mod Looking
pub mod VerifyIndex
