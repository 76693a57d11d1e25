pub mod Serving
pub mod ChunkServing
pub mod IndexServing
