pub mod Found
pub mod Stocked
pub mod Added
pub mod Fetched
