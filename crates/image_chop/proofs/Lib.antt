pub mod Chopped
pub mod ChoppingOn
