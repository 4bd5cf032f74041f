pub mod PacketLemmas
pub mod CardLemmas
pub mod ReasonsLemmas
pub mod ArrivalLemmas
pub mod ArrivesLemmas
pub mod PlaceLemmas
