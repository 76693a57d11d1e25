pub mod Table
pub mod Window
pub mod Sizes
pub mod Cuts
pub mod Feeding
