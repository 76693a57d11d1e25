pub mod Wholes
pub mod Shares
