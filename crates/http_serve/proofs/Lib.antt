pub mod Heading
pub mod Streaming
pub mod Nexts
pub mod Sending
pub mod Talking
pub mod Taking
pub mod Serving
pub mod Exact
