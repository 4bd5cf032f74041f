mod Alike
pub mod Carrying
pub mod Clocking
pub mod Fetching
mod Holding
pub mod Itself
mod KeyBack
pub mod Keys
pub mod Lengths
mod Looking
pub mod Opening
pub mod Port
pub mod Receiving
mod Rowing
pub mod Sending
pub mod Showing
pub mod Sifting
pub mod Standing
pub mod Stepping
pub mod Tallies
pub mod Telling
