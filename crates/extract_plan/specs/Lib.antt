pub mod Deal
pub mod Found
pub mod Keys
pub mod Links
pub mod Places
pub mod Seeds
pub mod Seen
