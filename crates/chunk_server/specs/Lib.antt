pub mod Requests
pub mod Answers
pub mod Shelves
pub mod Turns
pub mod Streams
pub mod States
pub mod FileReads
pub mod Reads
