pub mod Doubled
pub mod Outcome
pub mod Printed
pub mod Prints
pub mod Reported
pub mod Times
pub mod Told
pub mod Whole
