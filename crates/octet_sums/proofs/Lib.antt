mod Absorbing
mod BitLemmas
pub mod FletcherWords
mod LaneLemmas
pub mod Noticed
mod Sums
mod Words
