pub mod Values
pub mod Judging
pub mod CommandLine
