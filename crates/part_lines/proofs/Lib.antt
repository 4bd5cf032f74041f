pub mod Addresses
pub mod Splits
pub mod Fronts
pub mod Outcomes
pub mod Lines
pub mod Ports
