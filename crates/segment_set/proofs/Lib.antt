pub mod Numbers
pub mod Picks
pub mod Splitting
