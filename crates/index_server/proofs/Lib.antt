pub mod Answered
pub mod Exact
pub mod ReadIndex
pub mod FetchedIndex
pub mod OneIndex
