pub mod Below
pub mod Matrix
pub mod Telling
