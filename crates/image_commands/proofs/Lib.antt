pub mod Chopped
pub mod Ended
pub mod GivenStores
pub mod Made
pub mod Viewed
pub mod Stored
