pub mod AtHand
pub mod Commands
pub mod Contents
pub mod Exact
pub mod Lines
pub mod RoundTrip
pub mod Unfailed
