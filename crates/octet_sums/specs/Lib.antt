pub mod Hashers
pub mod Lanes
pub mod Laws
pub mod Sums
