pub mod Digests
pub mod Files
pub mod Held
