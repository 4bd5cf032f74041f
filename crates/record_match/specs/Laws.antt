-- Laws of what is matched. It states no standard.
use Rattle.std.specs.Prelude.{◌≡◌, ◌<◌, ⊤, ℕ, ◌+◌, ◌||◌, Bool, true, false, List, [], ◌∷◌, ◌++◌, length, map}
use Rattle.record_match.specs.Match.{Record, Sent, as_sent, is_known, lonely, matched, met, received_count, taken}
use Rattle.record_match.specs.Window.{is_over}

-- a list that is compared with itself is received whole
abbrev pub ItselfIsWhole : Type 0
ItselfIsWhole = (within : ℕ) (rs : List Record) → matched within rs rs ≡ map (λ r. taken (as_sent r)) rs

-- each record that is received is one that was sent, or lonely
abbrev pub EachIsTold : Type 0
EachIsTold = (within : ℕ) (sent received : List Record)
    → received_count (matched within sent received) + length (lonely within sent received) ≡ length received

-- whether one of some records may be one of those that were sent
abbrev pub is_any_known : ℕ → List Record → List Sent → Bool
is_any_known within [] sent = false
is_any_known within (r ∷ rs) sent = is_known within r sent || is_any_known within rs sent

-- none that is lonely is one that was sent and wasn't received
abbrev pub NoneIsLeft : Type 0
NoneIsLeft = (within : ℕ) (sent received : List Record)
    → is_any_known within (lonely within sent received) (matched within sent received) ≡ false

-- records that are over at a moment, and records that are later
abbrev pub AreOver : ℕ → ℕ → List Sent → Type 0
AreOver within now [] = ⊤
AreOver within now (s ∷ sent) = (is_over within now s ≡ true) × AreOver within now sent

abbrev pub AreLater : ℕ → List Sent → Type 0
AreLater now [] = ⊤
AreLater now (s ∷ sent) = (now < s.moment) × AreLater now sent

-- of those that were sent only what is held has to be asked: not what is over, nor what is later
abbrev pub HeldIsEnough : Type 0
HeldIsEnough = (within : ℕ) (r : Record) (over held later : List Sent) → AreOver within r.moment over → AreLater r.moment later
    → met within r (over ++ (held ++ later)) ≡ over ++ (met within r held ++ later)
