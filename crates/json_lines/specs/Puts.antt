-- What a call that puts a text behind others leaves, and the parts of texts that are put. It states no standard.
use Rattle.std.specs.Prelude.{◌≡◌, ℕ, Bool, ◌&&◌, ◌==◌, not, nat_le, List, [], ◌∷◌, ◌++◌, length, take, codes}
use Rattle.std.specs.Prelude.{Result, MatchResult, Option, None, Some}
use Rattle.std.specs.Borrow.{Bor}
use Rattle.std.specs.declared.alloc.AllocError.{AllocError}
use Rattle.json.specs.Print.{quoted}
use Rattle.serde_json.specs.Data.{Data, Members, no_members, member}
use Rattle.serde_json.specs.Written.{compact_text}
use Rattle.json_lines.specs.Outcomes.{words}
use Rattle.json_lines.specs.Objects.{outcome_data}

-- the text stands behind what there was, or where memory ran out some of it
abbrev pub Puts : Result (Unit {0}) AllocError → List ℕ → List ℕ → List ℕ → Type 0
Puts r old new text = MatchResult r (λ _. new ≡ old ++ text) (λ _. take (length old) new ≡ old)

-- no control character, no quote and no backslash
abbrev pub is_plain : ℕ → Bool
is_plain c = nat_le 32 c && (not (c == 34) && not (c == 92))

-- the words of a text, if there is one
abbrev pub words_behind : Option (Bor (List ℕ)) → List (List ℕ)
words_behind None = []
words_behind (Some text) = words text.now

-- a member behind a mark
abbrev pub member_text : ℕ → List ℕ → Data → List ℕ
member_text mark k d = mark ∷ (quoted k ++ 58 ∷ compact_text d)

-- members, the first behind this mark and each other behind a comma
abbrev pub marked : ℕ → Members → List ℕ
marked mark no_members = []
marked mark (member k d ms) = member_text mark k d ++ marked 44 ms

-- outcomes, in the same way
abbrev pub listed : ℕ → List (List ℕ) → List ℕ
listed mark [] = []
listed mark (w ∷ ws) = (mark ∷ compact_text (outcome_data w)) ++ listed 44 ws

-- an object that isn't closed yet
abbrev pub begun : Members → List ℕ
begun no_members = 123 ∷ []
begun (member k d ms) = marked 123 (member k d ms)

-- that so many octets left at a place, and that none did
abbrev pub sent_text : List ℕ → List ℕ → List ℕ
sent_text place length = codes "{\"octets\":" ++ (length ++ (codes ",\"place\":" ++ (quoted place ++ codes "}")))

abbrev pub unsent_text : List ℕ → List ℕ → List ℕ
unsent_text place fault = codes "{\"fault\":" ++ (quoted fault ++ (codes ",\"place\":" ++ (quoted place ++ codes "}")))
