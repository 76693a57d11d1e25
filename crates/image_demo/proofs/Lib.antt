pub mod Alike
pub mod FirstEntries
pub mod Generated
pub mod Given
pub mod Quiet
pub mod Sources
