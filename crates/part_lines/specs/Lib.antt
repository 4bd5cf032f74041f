pub mod Words
pub mod Sent
pub mod Facts
pub mod Parts
pub mod ReadBack
