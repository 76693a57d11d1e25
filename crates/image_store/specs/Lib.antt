pub mod PutChunks
pub mod Putting
pub mod Storing
pub mod StoreImage
