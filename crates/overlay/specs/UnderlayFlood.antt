-- The words on flood lists that this crate's clauses cite, which flood_lists has.
pub use Rattle.overlay.specs.Flood.{Entries, has_room, holds, is_wide, without, add_faults}
pub use Rattle.overlay.specs.First.{first, fault_of}
