pub mod Answers
pub mod Finding
pub mod Talks
pub mod States
pub mod Fetching
