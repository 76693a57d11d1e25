pub mod Held
pub mod Sure
pub mod Stepped
pub mod Sought
pub mod Exact
pub mod Asked
