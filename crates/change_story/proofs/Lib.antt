pub mod FaultLemmas
pub mod TextLemmas
