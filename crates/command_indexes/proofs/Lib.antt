pub mod Rises
pub mod FairSteps
pub mod Got
pub mod InOrder
pub mod Spelled
pub mod AllGot
pub mod Fair
