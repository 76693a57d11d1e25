pub mod States
pub mod Answers
pub mod Obtaining
pub mod Leaving
pub mod Talks
