pub mod Pairs
pub mod Kept
pub mod Turns
pub mod Told
pub mod Shown
pub mod Chained
pub mod Had
