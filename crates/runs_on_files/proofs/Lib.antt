pub mod Digesting
pub mod Holding
