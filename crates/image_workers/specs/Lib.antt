pub mod Beside
pub mod Kits
pub mod Lanes
pub mod Reporting
pub mod Shared
