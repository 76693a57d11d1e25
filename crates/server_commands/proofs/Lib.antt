pub mod Listened
pub mod Given
pub mod Shared
