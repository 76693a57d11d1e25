pub mod Chopping
pub mod ChopProgress
