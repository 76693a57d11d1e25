pub mod Stocking
