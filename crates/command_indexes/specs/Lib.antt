pub mod Places
pub mod Gets
pub mod Blames
pub mod Spelled
