pub mod Groups
pub mod Opened
pub mod Lacking
pub mod Numbers
pub mod Asking
pub mod Chains
