pub mod BridgeLemmas
pub mod OnceLemmas
