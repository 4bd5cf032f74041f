pub mod Bridge
pub mod Full
pub mod Mesh
pub mod Offspring
pub mod Peer
pub mod Segment
