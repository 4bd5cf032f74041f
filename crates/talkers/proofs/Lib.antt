pub mod Brought
pub mod Counting
pub mod Ranks
pub mod Sorted
