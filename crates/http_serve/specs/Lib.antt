pub mod Answers
pub mod Protocols
pub mod Steps
pub mod Requests
pub mod Received
pub mod Turns
pub mod Streams
pub mod Coming
