pub mod Runs
pub mod SizeLines
pub mod Stood
pub mod Ends
pub mod Trailers
pub mod Spelled
pub mod Ahead
