pub mod Filling
pub mod FillProgress
pub mod Fetching
