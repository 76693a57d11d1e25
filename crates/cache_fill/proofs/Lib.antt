pub mod Holding
pub mod EntryCalls
pub mod Filled
pub mod Fetched
pub mod Sparing
pub mod Ahead
pub mod Progress
