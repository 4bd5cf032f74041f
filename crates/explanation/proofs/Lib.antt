pub mod Accepted
pub mod Faults
pub mod Growing
pub mod SameRun
