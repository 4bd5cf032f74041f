pub mod ReadBack
pub mod Refusing
pub mod Told
pub mod WholeRuns
