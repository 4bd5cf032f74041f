pub mod Steps
mod Keys
mod Items
mod Cuts
mod Separated
mod Dotted
mod ColonHex
pub mod Names
pub mod Addresses
