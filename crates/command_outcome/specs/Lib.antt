pub mod ErrorLines
pub mod Lines
pub mod Statuses
