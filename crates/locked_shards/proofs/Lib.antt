pub mod Knowing
