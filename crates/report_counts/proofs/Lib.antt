pub mod Steps
pub mod Naming
pub mod Keeping
pub mod Fates
pub mod Reading
