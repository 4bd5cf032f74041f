pub mod BridgeLemmas
pub mod NeighbourLemmas
pub mod StoryLemmas
