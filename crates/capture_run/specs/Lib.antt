pub mod Among
pub mod Sendings
pub mod Outputs
pub mod Fault
pub mod Run
pub mod Writing
