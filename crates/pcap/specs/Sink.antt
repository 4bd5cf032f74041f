-- A sink of octets, and what its calls make of it. It states no standard.
use Rattle.std.specs.Prelude.{◌≡◌, ◌<◌, ℕ, Bool, true, false, List, [], length, take, Option, Result, Ok, Err, IsErr, MatchBool, flat_map}
use Rattle.std.specs.Borrow.{Bor}
use Rattle.std.specs.Io.KnownBytes.{Appends, Keeps}
use Rattle.pcap.specs.Counts.{GoesOnBy}

-- texts side by side
abbrev pub joined : List (Bor (List ℕ)) → List ℕ
joined = flat_map (λ part. part.now)

-- a part of the text was written, and not all of it
abbrev pub AppendsPart : Option (List ℕ) → Option (List ℕ) → List ℕ → Type 0
AppendsPart old new text = (n : ℕ) × (n < length text) × Appends old new (take n text)

-- what was written to the output, where it tells that, how often it failed or took nothing, whether the sink gave up, and which of
-- the octets that were written are held back
pub record Drain : Type 0 where
  pub written : Option (List ℕ)
  pub failures : ℕ
  pub is_failed : Bool
  pub held : List ℕ

module _ {T E : Type 0} where
  -- the text was written, or a part of it where the output failed once
  abbrev pub Writes : Drain → Drain → List ℕ → Result T E → Type 0
  Writes old new text (Ok x) = (new.is_failed ≡ false) × (new.failures ≡ old.failures) × Appends old.written new.written text
  Writes old new text (Err e) =
      (new.is_failed ≡ true) × GoesOnBy 1 old.failures new.failures × AppendsPart old.written new.written text

  -- nothing more was written, and nothing is held back; where the output failed once, the sink gave up
  abbrev pub HandsOn : Drain → Drain → Result T E → Type 0
  HandsOn old new (Ok x) = (new.is_failed ≡ false) × (new.failures ≡ old.failures) × Keeps old.written new.written × (new.held ≡ [])
  HandsOn old new (Err e) = (new.is_failed ≡ true) × GoesOnBy 1 old.failures new.failures × Keeps old.written new.written

  -- and after a fault nothing is handed on any more
  abbrev pub IsHandedOn : Drain → Drain → Result T E → Type 0
  IsHandedOn old new result = MatchBool old.is_failed (IsErr result × (new ≡ old)) (HandsOn old new result)

  -- and after a fault nothing is written any more
  abbrev pub IsPut : Drain → Drain → List ℕ → Result T E → Type 0
  IsPut old new text result = MatchBool old.is_failed (IsErr result × (new ≡ old)) (Writes old new text result)
