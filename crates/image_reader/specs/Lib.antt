pub mod Covered
pub mod Keeping
pub mod Images
pub mod Refusals
pub mod Reading
