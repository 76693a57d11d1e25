pub mod MemLinks
