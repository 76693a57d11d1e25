pub mod SureSinks
pub mod SureFiles
pub mod SureTargets
