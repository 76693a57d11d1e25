pub mod OptionTable
pub mod Locations
pub mod Roles
pub mod Limits
pub mod Whole
