pub mod Bucket
pub mod Echo
pub mod Index
pub mod Laid
pub mod Places
