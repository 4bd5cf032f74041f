pub mod Splits
pub mod Words
pub mod Lines
pub mod Numbers
pub mod Places
