pub mod Again
pub mod Own
pub mod Reports
pub mod Runs
pub mod Single
pub mod Texts
pub mod Until
pub mod Vnis
