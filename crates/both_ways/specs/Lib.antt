pub mod Told
pub mod Sieve
pub mod Members
pub mod Outlets
pub mod Laws
pub mod Line
pub mod Placed
