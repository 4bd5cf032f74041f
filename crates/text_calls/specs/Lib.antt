pub mod Check
pub mod Status
