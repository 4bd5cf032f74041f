-- The slots, the trees and the segments together. It serves proofs.
use Rattle.std.specs.Prelude.{◌≡◌, ℕ, ◌⊎◌, ◌+◌, ◌≤◌, false, true, List, map, slice_set, Option, None}
use Rattle.std.specs.Option.{option_map}
use Rattle.shared_tables.specs.declared.share.Share.{Share}
use Rattle.shared_tables.specs.declared.look_up.Sought.{Sought}
use Rattle.shared_tables.specs.declared.look_up.Sought.TheVariants.{At, Missing}
use Rattle.shared_tables.specs.Bucket.{key_of, tree_of}
use Rattle.shared_tables.specs.Pool.{Pool, Held, entry_at, IfHeld, is_dead_in}
use Rattle.shared_tables.specs.LinkSteps.{IsHeld}
use Rattle.shared_tables.specs.Shared.{Shared, rule_at, kept_count, line_key, Lacks, HasRoom, IsAtLimit, IsOldest, Enters}
use Rattle.shared_tables.specs.SlotsOfSegments.{rule_of, IsSound}
use Rattle.shared_tables.specs.TreesOfSlots.{AreTreesOf, BelongsBeside}
use Rattle.shared_tables.specs.TreeColumns.{Trees}

-- what holds of them
pub record IsWhole (slots : Pool) (w : Trees) (shares : List (Option Share)) (moment : ℕ) : Type 0 where
  pub sound : IsSound slots.entries slots.lines shares moment
  pub trees : AreTreesOf slots.entries w

-- what contracts see of them
abbrev pub seen : Pool → List (Option Share) → ℕ → ℕ → ℕ → Shared
seen slots shares moment calls compared = record {
  entries = slots.entries;
  rules = map (option_map rule_of) shares;
  moment = moment;
  calls = calls;
  compared = compared;
  visited = slots.visited;
}

-- a slot holds the address, or none does, and it is told where it belongs
abbrev pub Finds : List (Option Held) → Trees → ℕ → List ℕ → Sought → Type 0
Finds entries w vid mac (At slot) = IfHeld (entry_at entries slot) vid mac × IsHeld entries slot
Finds entries w vid mac (Missing beside) = Lacks entries vid mac × BelongsBeside entries w.words (tree_of vid mac) (key_of vid mac) beside

-- an entry comes in place of one that has gone
abbrev pub Replaces : Shared → Shared → ℕ → Held → Type 0
Replaces old new slot e = Enters (record old { entries = slice_set old.entries slot None }) new e

-- an entry of the segment that was seen first is dead, and another comes in its place
pub record Ousts (old new : Shared) (vid ageing : ℕ) (e : Held) : Type 0 where
  pub slot : ℕ
  pub oldest : IsOldest old.entries vid slot
  pub dead : is_dead_in (entry_at old.entries slot) ageing old.moment ≡ true
  pub room : HasRoom (rule_at old.rules vid) (kept_count vid (slice_set old.entries slot None))
  pub comes : Replaces (record old { visited = old.visited + 1 }) new slot e

-- no entry of the segment is dead, and there is room for no other
pub record Refuses (old new : Shared) (vid ageing : ℕ) : Type 0 where
  pub same : new ≡ record old { visited = new.visited }
  pub live : (i : ℕ) → line_key vid false (entry_at old.entries i) ≡ true
      → is_dead_in (entry_at old.entries i) ageing old.moment ≡ false
  pub full : IsAtLimit (rule_at old.rules vid) (kept_count vid old.entries)
  pub few : new.visited ≤ old.visited + 1
  pub counted : old.visited ≤ new.visited

-- an entry comes, where there is room, or where there will be; the others that are dead stay for now
abbrev pub Makes : Shared → Shared → ℕ → ℕ → Held → Type 0
Makes old new vid ageing e = (HasRoom (rule_at old.rules vid) (kept_count vid old.entries) × Enters old new e)
    ⊎ Ousts old new vid ageing e
