pub mod ProxyServing
pub mod Reaching
pub mod FolderChains
