mod Pairs
mod Readings
mod Steps
mod Roomy
mod Hops
mod Numbers
mod Tunnels
pub mod Meets
mod Rising
mod Rewrites
mod SegmentKept
mod Third
mod Asked
mod Versions
mod Keeps
