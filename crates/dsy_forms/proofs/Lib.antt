pub mod Trees
pub mod Updates
