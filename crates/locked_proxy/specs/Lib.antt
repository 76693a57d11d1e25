pub mod Chains
pub mod Replies
