pub mod Answered
pub mod Growing
pub mod Outcomes
pub mod Running
pub mod Texts
