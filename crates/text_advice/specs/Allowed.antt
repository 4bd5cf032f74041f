-- What is allowed under each key, by the sentences that src/allowed.rt and src/allowed_changes.rt have. It states no standard.
use Rattle.std.specs.Prelude.{ℕ, List, [], ◌∷◌, map, ◌&&◌, Option, Some, None, if◌then◌else◌}
use Rattle.text_advice.specs.Line.{same}
use Rattle.text_advice.specs.Known.{fits}
use Rattle.std.specs.Borrow.{Bor}
use Rattle.text_advice.specs.declared.known.TextKind.{TextKind}
use Rattle.text_advice.specs.declared.known.TextKind.TheVariants.{Settings, Changes}
use Rattle.text_advice.specs.declared.allowed.TheConstants.{SETTINGS_SENTENCES}
use Rattle.text_advice.specs.declared.allowed_changes.TheConstants.{CHANGE_SENTENCES}

-- what is allowed under the keys of a path, where the text has a variant of this name, for a fault
pub record Row : Type 0 where
  pub path : List ℕ
  pub variant : List ℕ
  pub fault : List ℕ
  pub text : List ℕ

-- what the code holds of one
abbrev pub sentence_row_of : Bor (List ℕ) × Bor (List ℕ) × Bor (List ℕ) × Bor (List ℕ) → Row
sentence_row_of s = record { path = s.0.now; variant = s.1.now; fault = s.2.now; text = s.3.now }

-- the first sentence of the path that fits the variant and the fault
abbrev pub sentence_in : List Row → List ℕ → List ℕ → List ℕ → Option (List ℕ)
sentence_in [] path variant fault = None
sentence_in (r ∷ rs) path variant fault =
    if same r.path path && fits r.variant variant && fits r.fault fault then Some r.text else sentence_in rs path variant fault

-- the same of one that stands in the code as a constant
abbrev pub constant_row : record { now : List ℕ } × record { now : List ℕ } × record { now : List ℕ }
    × record { now : List ℕ } → Row
constant_row s = record { path = s.0.now; variant = s.1.now; fault = s.2.now; text = s.3.now }

-- what is allowed under the key of a path, in a text of a variant, for a fault
unfoldable pub sentence_of : TextKind → List ℕ → List ℕ → List ℕ → Option (List ℕ)
sentence_of Settings path variant fault = sentence_in (map constant_row SETTINGS_SENTENCES) path variant fault
sentence_of Changes path variant fault = sentence_in (map constant_row CHANGE_SENTENCES) path variant fault
