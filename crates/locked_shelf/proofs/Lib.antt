pub mod Keeping
pub mod Replying
pub mod Counting
pub mod Ending
