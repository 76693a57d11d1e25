pub mod SizeLine
pub mod Body
pub mod Seen
pub mod Standing
pub mod HeadEnd
pub mod Spelling
pub mod Ahead
