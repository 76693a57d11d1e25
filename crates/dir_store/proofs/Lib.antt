pub mod Components
pub mod Ids
pub mod Lists
pub mod Order
pub mod Puts
