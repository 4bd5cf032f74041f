pub mod Counted
pub mod Pace
pub mod Shown
