pub mod Stepped
pub mod Exact
