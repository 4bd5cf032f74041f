-- The work that calls do, as counts without an upper end. It states no standard.
use Rattle.std.specs.Prelude.{◌≡◌, ℕ, ◌+◌, ◌*◌, ◌≤◌, Bool, false, List, [], ◌∷◌, Option, Some, None}
use Rattle.std.specs.List.{sum_by, AllByRecursion}
use Rattle.shared_tables.specs.Pool.{Held}
use Rattle.shared_tables.specs.Pool.{entry_at, IfHeld, is_dead_in}
use Rattle.shared_tables.specs.Line.{weight}
use Rattle.shared_tables.specs.Bucket.{bucket_of, key_bits}
use Rattle.shared_tables.specs.Shared.{Shared, Rule, rule_at, span_of, bucket_count, held_count}

-- a slot holds an entry that is dead at a moment, under its own segment's ageing
abbrev pub is_dead : List (Option Rule) → ℕ → Option Held → Bool
is_dead rules now None = false
is_dead rules now (Some e) = is_dead_in (Some e) (span_of (rule_at rules e.vid)) now

-- how many are
abbrev pub dead_count : List (Option Rule) → ℕ → List (Option Held) → ℕ
dead_count rules now entries = sum_by (weight (is_dead rules now)) entries

-- an address was compared with a slot's at most as often as entries were kept in its bucket
abbrev pub ComparesFew : Shared → Shared → ℕ → List ℕ → Type 0
ComparesFew old new vid mac = new.compared ≤ old.compared + bucket_count (bucket_of vid mac) old.entries

-- whatever stands in the pool, an address was compared with a slot's, or sent on by a fork, at most once more often than a
-- key has bits: each bit sends it on once
abbrev pub ComparesByBits : Shared → Shared → Type 0
ComparesByBits old new = new.compared ≤ old.compared + (key_bits + 1)

-- an entry's age was told at most once more than dead entries have gone
abbrev pub VisitsFew : Shared → Shared → ℕ → Type 0
VisitsFew old new now = new.visited + dead_count old.rules now new.entries ≤ old.visited + dead_count old.rules now old.entries + 1

-- of an address that a slot holds, at most so many ages were told
abbrev pub TellsAtMost : ℕ → Shared → Shared → ℕ → List ℕ → Type 0
TellsAtMost few old new vid mac = (slot : ℕ) → IfHeld (entry_at old.entries slot) vid mac → new.visited ≤ old.visited + few

-- each call pays two for what its entries will cost
abbrev pub Pays : Shared → Shared → Type 0
Pays old new = new.visited + held_count new.entries ≤ old.visited + held_count old.entries + 2

-- what was visited, with the entries that are kept, is at most two for each call
abbrev pub IsPaid : Shared → Type 0
IsPaid s = s.visited + held_count s.entries ≤ 2 * s.calls

-- the tables after each of some calls
abbrev pub AreAfterCalls : Shared → List Shared → Type 0
AreAfterCalls s [] = Unit {0}
AreAfterCalls s (t ∷ ts) = (t.calls ≡ s.calls + 1) × Pays s t × AreAfterCalls t ts

-- whatever calls come, all work is paid for after each of them
abbrev pub PaysForAllWork : Type 0
PaysForAllWork = (s : Shared) (ts : List Shared) → IsPaid s → AreAfterCalls s ts → AllByRecursion IsPaid ts
