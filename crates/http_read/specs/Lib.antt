pub mod Asks
pub mod Replies
pub mod Refusals
pub mod Reads
pub mod Answers
pub mod Remotes
pub mod Calls
