pub mod AgreeLemmas
pub mod DigitLemmas
pub mod EtherLemmas
pub mod FrameLemmas
pub mod LayersLemmas
pub mod PartsLemmas
pub mod RefusalLemmas
pub mod TextLemmas
