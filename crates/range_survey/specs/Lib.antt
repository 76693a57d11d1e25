pub mod Excuses
pub mod Fates
pub mod Hashers
pub mod Reports
pub mod Zeros
