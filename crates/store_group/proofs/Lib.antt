pub mod Questions
pub mod Groups
pub mod Calm
