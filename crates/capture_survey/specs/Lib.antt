pub mod Report
pub mod Survey
pub mod Tally
