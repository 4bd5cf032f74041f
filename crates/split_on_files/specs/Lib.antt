pub mod Lanes
pub mod Meanings
pub mod Pass
pub mod Steps
