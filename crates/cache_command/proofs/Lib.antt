pub mod Renumbered
pub mod CacheFilled
pub mod AskedListings
pub mod GivenChains
pub mod AlikeChains
pub mod Had
