-- The trees: an address's key and its tree, a way down, and what a leaf that comes or goes leaves of them.
pub mod Buckets
pub mod ColumnsLemmas
pub mod Keys
pub mod TreeLemmas
pub mod TreesOfLemmas
pub mod Places
pub mod Ways
pub mod Walk
pub mod Grafting
pub mod Planting
pub mod Clearing
pub mod Pruning
pub mod Relabeling
pub mod Uprooting
pub mod Bare
pub mod Parting
