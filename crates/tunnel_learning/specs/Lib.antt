pub mod Bridge
pub mod Members
pub mod Once
pub mod Outlets
pub mod Verdict
