pub mod Ahead
pub mod Consumers
