pub mod Rooms
pub mod OneReply
pub mod Lengths
pub mod Takes
pub mod Fetched
