pub mod Among
pub mod Changes
pub mod Faults
pub mod Growing
