pub mod Captured
pub mod Words
pub mod Inputs
pub mod Faults
pub mod Events
pub mod Order
pub mod Timeline
pub mod Drains
