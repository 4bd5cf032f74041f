pub mod Lines
pub mod Order
pub mod Passed
pub mod Run
pub mod Sums
pub mod Talk
pub mod Talkers
