pub mod Stores
pub mod Puts
pub mod Names
pub mod Lists
