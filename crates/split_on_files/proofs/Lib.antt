pub mod AsAsked
pub mod Chosen
pub mod Meant
pub mod Passing
pub mod Told
