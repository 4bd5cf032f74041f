pub mod Change
pub mod Checks
pub mod Seen
pub mod Segment
pub mod Story
pub mod Words
