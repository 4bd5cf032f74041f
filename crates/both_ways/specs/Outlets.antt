-- How a sieve keeps where segments send frames out: it works that out once for many frames of a segment. It serves proofs.
use Rattle.std.specs.Prelude.{ℕ, ◌&&◌, nat_eq, nat_lt, Bool, if◌then◌else◌, List, set, slice_index_or}
use Rattle.both_ways.specs.Told.{no_places, outlets}
use Rattle.overlay.specs.Ports.{Ports}

-- what is kept: the era, another one behind each change; and by VIDs the era in which each was worked out, and the places
pub record Kept : Type 0 where
  pub era : ℕ
  pub eras : List ℕ
  pub places : List (List Bool)

-- that of a segment was worked out in this era, which isn't the last one
abbrev pub is_kept : Kept → ℕ → Bool
is_kept k vid = nat_lt k.era 18446744073709551615 && nat_eq (slice_index_or k.eras vid 0) k.era

-- where segments send frames out, as it is kept, and else by these settings
abbrev pub kept_outlets : Kept → Ports → ℕ → List Bool
kept_outlets k P vid = if is_kept k vid then slice_index_or k.places vid no_places else outlets P vid

-- with that of one segment
abbrev pub with_outlets : Kept → ℕ → List Bool → Kept
with_outlets k vid places = record { era = k.era; eras = set k.eras vid k.era; places = set k.places vid places }
