pub mod Lengths
pub mod Lines
pub mod Targets
pub mod IndexTargets
pub mod Judged
