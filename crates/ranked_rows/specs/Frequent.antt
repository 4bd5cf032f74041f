-- Tables that keep the keys that come most often, as Space-Saving does (Metwally, Agrawal, El Abbadi, Efficient Computation of
-- Frequent and Top-k Elements in Data Streams, 2005): where a table is full a new key takes the row of one that came seldom, and
-- its row tells how often it may have come before. There the row with the least count gives way; here one of the 96 least does.
--     Since, most_of      what a row counts since its key has it; how often the key came, at most
--     IsSince      what such a row tells of all that came
--     Keeps      what a table tells of it
use Rattle.std.specs.Prelude.{◌≡◌, ◌==◌, ◌<◌, ◌≤◌, ℕ, suc, ◌+◌, ◌-◌, ◌*◌, ◌^◌, min, nat_lt, if◌then◌else◌, ⊤}
use Rattle.std.specs.Prelude.{List, [], ◌∷◌, ◌++◌, length, map, slice_index_or, Option, None, Some}
use Rattle.std.specs.List.{remove}
use Rattle.ranked_rows.specs.Rows.{AreRising, all_counts, row_of, total, with_counts}
use Rattle.ranked_rows.specs.declared.key_count.KeyCount.{KeyCount}
use Rattle.ranked_rows.specs.declared.since.Since.{Since}

-- ---- rows

-- what is counted of a key since it has a row, and how often it may have come before
abbrev pub since : {C : Type 0} → C → ℕ → Since C
since counts before = record { counts = counts; before = before }

-- with more of it
abbrev pub since_joined : {C : Type 0} → (C → C → C) → Since C → Since C → Since C
since_joined joined a b = since (joined a.counts b.counts) a.before

-- how often the key of a row came, at most
abbrev pub most_of : {K C : Type 0} → (C → ℕ) → KeyCount K (Since C) → ℕ
most_of times row = min (2 ^ 64 - 1) (times row.counts.counts + row.counts.before)

-- what a row counts
abbrev pub bare : {K C : Type 0} → KeyCount K (Since C) → KeyCount K C
bare row = row_of row.key row.counts.counts

-- a row that its key has from the begin
abbrev pub whole : {K C : Type 0} → KeyCount K C → KeyCount K (Since C)
whole row = row_of row.key (since row.counts 0)

-- some rows, what comes of all that these don't count, and how often a key without a row came, at most
pub record Frequent (K C : Type 0) : Type 0 where
  pub rows : List (KeyCount K (Since C))
  pub others : C
  pub floor : ℕ

-- a table of nothing
abbrev pub nothing_yet : {K C : Type 0} → C → Frequent K C
nothing_yet none = record { rows = []; others = none; floor = 0 }

-- ---- what came

-- of one rank
abbrev pub of_rank : {K C : Type 0} → (K → ℕ) → ℕ → List (KeyCount K C) → List (KeyCount K C)
of_rank rank n [] = []
of_rank rank n (x ∷ xs) = if rank x.key == n then x ∷ of_rank rank n xs else of_rank rank n xs

-- on top of what came before
abbrev pub come_to : {K C : Type 0} → (C → C → C) → C → List (KeyCount K C) → C
come_to joined counts [] = counts
come_to joined counts (x ∷ xs) = come_to joined (joined counts x.counts) xs

-- how often, all together
abbrev pub all_times : {K C : Type 0} → (C → ℕ) → List (KeyCount K C) → ℕ
all_times times [] = 0
all_times times (x ∷ xs) = times x.counts + all_times times xs

-- how often, as a count tells that ends at 2^64 - 1
abbrev pub times_of : {K C : Type 0} → (C → C → C) → C → (C → ℕ) → List (KeyCount K C) → ℕ
times_of joined none times xs = times (total joined none xs)

-- ---- what a table tells of it

-- a row counts all that came of its key from one time on, and what came before isn't more often than it tells
pub record IsSince {K C : Type 0} (rank : K → ℕ) (joined : C → C → C) (none : C) (times : C → ℕ) (came : List (KeyCount K C))
    (row : KeyCount K (Since C)) : Type 0 where
  pub before : List (KeyCount K C)
  pub first : KeyCount K C
  pub behind : List (KeyCount K C)
  pub parts : of_rank rank (rank row.key) came ≡ before ++ first ∷ behind
  pub counts : row.counts.counts ≡ come_to joined first.counts behind
  pub few : times_of joined none times before ≤ row.counts.before

-- all rows do
abbrev pub AreSince : {K C : Type 0} → (K → ℕ) → (C → C → C) → C → (C → ℕ) → List (KeyCount K C) → List (KeyCount K (Since C))
    → Type 0
AreSince rank joined none times came [] = ⊤
AreSince rank joined none times came (row ∷ rows) = IsSince rank joined none times came row × AreSince rank joined none times came rows

-- no row has this rank
abbrev pub HasNone : {K X : Type 0} → (K → ℕ) → ℕ → List (KeyCount K X) → Type 0
HasNone rank n [] = ⊤
HasNone rank n (row ∷ rows) = (rank row.key ≡ n → ⊥) × HasNone rank n rows

-- no row may have been without its key more often
abbrev pub AreLow : {K C : Type 0} → ℕ → List (KeyCount K (Since C)) → Type 0
AreLow floor [] = ⊤
AreLow floor (row ∷ rows) = (row.counts.before ≤ floor) × AreLow floor rows

-- how often keys came beyond this, at most, all together
abbrev pub beyond : {K C : Type 0} → (C → ℕ) → ℕ → List (KeyCount K (Since C)) → ℕ
beyond times floor [] = 0
beyond times floor (row ∷ rows) = (most_of times row - floor) + beyond times floor rows

-- of all that came a table keeps: rows, of which no two are of one key; neither did a key without one come more often than its
-- floor, nor that of a row before; 4,000 floors and what the rows count beyond it are no more than all that came; rows and
-- others are all that came. While no more than 4,096 keys come, each has its row from the begin; where more come there are
-- 4,096 rows
pub record Keeps {K C : Type 0} (rank : K → ℕ) (joined : C → C → C) (none : C) (times : C → ℕ) (came : List (KeyCount K C))
    (t : Frequent K C) : Type 0 where
  pub rising : AreRising rank t.rows
  pub since : AreSince rank joined none times came t.rows
  pub low : AreLow t.floor t.rows
  pub seldom : (n : ℕ) → HasNone rank n t.rows → times_of joined none times (of_rank rank n came) ≤ t.floor
  pub bound : 4000 * t.floor + beyond times t.floor t.rows ≤ all_times times came
  pub sum : joined (total joined none (map bare t.rows)) t.others ≡ total joined none came
  pub few : length (all_counts rank joined [] came) ≤ 4096
      → (t.rows ≡ map whole (all_counts rank joined [] came)) × (t.floor ≡ 0) × (t.others ≡ none)
  pub many : 4096 < length (all_counts rank joined [] came) → length t.rows ≡ 4096

-- ---- rows that give way

-- how many rows count no more than so often
abbrev pub up_to : {K C : Type 0} → (C → ℕ) → ℕ → List (KeyCount K (Since C)) → ℕ
up_to times limit [] = 0
up_to times limit (row ∷ rows) = if nat_lt limit (most_of times row) then up_to times limit rows else suc (up_to times limit rows)

-- a floor rises no further than that all rows but 95 count more than any number below it
pub record IsRaised {K C : Type 0} (times : C → ℕ) (rows : List (KeyCount K (Since C))) (old new : ℕ) : Type 0 where
  pub up : old ≤ new
  pub few : (x : ℕ) → old ≤ x → x < new → up_to times x rows < 96

-- the row at a place gives way to one of this key
pub record GivesWay {K C : Type 0} (rank : K → ℕ) (joined : C → C → C) (times : C → ℕ) (old : List (KeyCount K (Since C)))
    (floor : ℕ) (more : KeyCount K C) (new : List (KeyCount K (Since C))) (risen : ℕ) (gone : C) : Type 0 where
  pub at : ℕ
  pub there : at < length old
  pub none : HasNone rank (rank more.key) old
  pub full : length old ≡ 4096
  pub raised : IsRaised times old floor risen
  pub low : (d : KeyCount K (Since C)) → most_of times (slice_index_or old at d) ≤ risen
  pub counts : (d : KeyCount K (Since C)) → gone ≡ (slice_index_or old at d).counts.counts
  pub rows : new ≡ with_counts rank (since_joined joined) more.key (since more.counts risen) (remove old at)

-- more of a key is counted in its row, or it has one from now on, in whose place another may have been
abbrev pub Puts : {K C : Type 0} → (K → ℕ) → (C → C → C) → (C → ℕ) → List (KeyCount K (Since C)) → ℕ → KeyCount K C
    → List (KeyCount K (Since C)) → ℕ → Option C → Type 0
Puts rank joined times old floor more new risen None =
    (new ≡ with_counts rank (since_joined joined) more.key (since more.counts floor) old) × (risen ≡ floor) × (length new ≤ 4096)
Puts rank joined times old floor more new risen (Some gone) = GivesWay rank joined times old floor more new risen gone

-- others, with what a row counted that gave way
abbrev pub with_gone : {C : Type 0} → (C → C → C) → C → Option C → C
with_gone joined others None = others
with_gone joined others (Some gone) = joined others gone

-- the place in an order of which the one at another place is taken out
abbrev pub place_then : ℕ → ℕ → ℕ
place_then gone at = if nat_lt gone at then at - 1 else at
