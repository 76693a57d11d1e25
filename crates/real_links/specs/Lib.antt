pub mod Paces
