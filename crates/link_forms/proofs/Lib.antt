pub mod FreshLinks
pub mod Pieces
