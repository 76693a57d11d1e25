pub mod Excused
pub mod Fated
pub mod Reported
