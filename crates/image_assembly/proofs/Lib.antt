pub mod Handing
pub mod Lending
pub mod OnePlan
pub mod Picking
pub mod Picks
pub mod Planned
pub mod Readying
