pub mod Lists
pub mod Parts
pub mod Schemes
pub mod Tables
