pub mod SeedAnswers
pub mod Obtained
pub mod Lacking
pub mod Cached
pub mod Origins
pub mod Behind
