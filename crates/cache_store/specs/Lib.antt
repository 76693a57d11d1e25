pub mod Giving
pub mod Shelves
pub mod Through
