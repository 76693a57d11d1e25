pub mod Lists
pub mod Faults
pub mod Queries
pub mod Refusals
pub mod Giving
pub mod Chains
