-- The keys of each table, by the rows that src/known.rt has. It states no standard.
use Rattle.std.specs.Prelude.{ℕ, List, [], ◌∷◌, map, Bool, true, ◌&&◌, if◌then◌else◌}
use Rattle.text_advice.specs.Line.{same}
use Rattle.text_advice.specs.declared.known.TextKind.{TextKind}
use Rattle.text_advice.specs.declared.known.TextKind.TheVariants.{Settings, Changes}
use Rattle.std.specs.Borrow.{Bor}
use Rattle.text_advice.specs.declared.known.TheConstants.{SETTINGS_KEYS, CHANGE_KEYS}

-- the keys of the tables of a path, where the text has a variant of this name
pub record Row : Type 0 where
  pub path : List ℕ
  pub variant : List ℕ
  pub keys : List (List ℕ)

-- what the code holds of one
abbrev pub row_of : Bor (List ℕ) × Bor (List ℕ) × Bor (List (Bor (List ℕ))) → Row
row_of t = record { path = t.0.now; variant = t.1.now; keys = map (λ k. k.now) t.2.now }

-- a row without a variant fits any
abbrev pub fits : List ℕ → List ℕ → Bool
fits [] variant = true
fits (c ∷ cs) variant = same (c ∷ cs) variant

-- the keys of the first row that fits
abbrev pub keys_in : List Row → List ℕ → List ℕ → List (List ℕ)
keys_in [] path variant = []
keys_in (r ∷ rs) path variant = if same r.path path && fits r.variant variant then r.keys else keys_in rs path variant

-- the same of a row that stands in the code as a constant
abbrev pub constant_row : record { now : List ℕ } × record { now : List ℕ }
    × record { now : List (record { now : List ℕ }) } → Row
constant_row t = record { path = t.0.now; variant = t.1.now; keys = map (λ k. k.now) t.2.now }

-- the keys of a table of settings or of changes
unfoldable pub keys_of : TextKind → List ℕ → List ℕ → List (List ℕ)
keys_of Settings path variant = keys_in (map constant_row SETTINGS_KEYS) path variant
keys_of Changes path variant = keys_in (map constant_row CHANGE_KEYS) path variant
