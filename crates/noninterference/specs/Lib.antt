pub mod Alone
pub mod Coming
pub mod Leaving
