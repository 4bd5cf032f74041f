-- How the name of an event is read. It serves proofs, and states no standard.
use Rattle.std.specs.Prelude.{◌≡◌, ℕ, suc, ◌<◌, All, ◌==◌, ◌&&◌, Bool, true, false, List, [], ◌∷◌, ◌++◌}
use Rattle.std.specs.Prelude.{length, codes, decimal, nat_eq, nat_lt, Option, Some, None, if◌then◌else◌}
use Rattle.std.specs.List.{cons_option, list_any}
use Rattle.std.specs.List.Sorted.{IsNonDecreasingBy}
use Rattle.std.specs.Option.{option_map}
use Rattle.line_words.specs.Numbers.{number_of}
use Rattle.line_words.specs.Splits.{before_octet, behind_octet}
use Rattle.timeline.specs.Words.{source_word}
use Rattle.timeline.specs.declared.source.Source.{Source}
use Rattle.timeline.specs.declared.source.Source.TheVariants.{Changes, Tap}
use Rattle.timeline.specs.declared.source.Tap.TheVariants.{Port, Underlay}
use Rattle.run_reports.specs.declared.reading.Name.{Name}
use Rattle.run_reports.specs.declared.asked.Asked.{Asked}

-- ---- a text

-- what stands before the first colon, or all of it
abbrev pub before_colon : List ℕ → List ℕ
before_colon text = before_octet 58 text

-- what stands behind the first colon, or nothing
abbrev pub behind_colon : List ℕ → List ℕ
behind_colon text = behind_octet 58 text

-- a text has a colon
abbrev pub has_colon : List ℕ → Bool
has_colon [] = false
has_colon (c ∷ cs) = if c == 58 then true else has_colon cs

-- the port of a number
abbrev pub port_in : Option ℕ → Option Source
port_in None = None
port_in (Some n) = if nat_lt n 256 then Some (Tap (Port n)) else None

-- the source of a word of one character
abbrev pub alone_in : ℕ → List ℕ → Option Source
alone_in c [] = if c == 99 then Some Changes else if c == 117 then Some (Tap Underlay) else None
alone_in c (d ∷ ds) = None

-- the source of a word
abbrev pub source_in : List ℕ → Option Source
source_in [] = None
source_in (c ∷ cs) = if c == 112 then port_in (number_of cs) else alone_in c cs

-- the name by a source and a number there
abbrev pub in_source : Option Source → Option ℕ → Option Name
in_source None number = None
in_source (Some source) None = None
in_source (Some source) (Some number) = Some (record { source = Some source; number = number })

-- the name by a number in the run
abbrev pub in_run : Option ℕ → Option Name
in_run None = None
in_run (Some number) = Some (record { source = None; number = number })

-- the name that a text is
abbrev pub name_in : List ℕ → Option Name
name_in text = if has_colon text then in_source (source_in (before_colon text)) (number_of (behind_colon text)) else in_run (number_of text)

-- the text of a name
abbrev pub text_of : Option Source → ℕ → List ℕ
text_of None number = decimal number
text_of (Some source) number = source_word source ++ codes ":" ++ decimal number

-- a place where numbers count is one of a run: a port's number is one octet
abbrev pub FitsSource : Option Source → Type 0
FitsSource None = Unit {0}
FitsSource (Some Changes) = Unit {0}
FitsSource (Some (Tap Underlay)) = Unit {0}
FitsSource (Some (Tap (Port port))) = port < 256

-- two numbers count at one place
abbrev pub same_source : Option Source → Option Source → Bool
same_source None None = true
same_source None (Some b) = false
same_source (Some a) None = false
same_source (Some Changes) (Some Changes) = true
same_source (Some Changes) (Some (Tap b)) = false
same_source (Some (Tap a)) (Some Changes) = false
same_source (Some (Tap Underlay)) (Some (Tap Underlay)) = true
same_source (Some (Tap Underlay)) (Some (Tap (Port b))) = false
same_source (Some (Tap (Port a))) (Some (Tap Underlay)) = false
same_source (Some (Tap (Port a))) (Some (Tap (Port b))) = nat_eq a b

-- a name is this one
abbrev pub is_name : Option Source → ℕ → Option Name → Bool
is_name source number None = false
is_name source number (Some a) = nat_eq a.number number && same_source a.source source

-- ---- names in a list

-- a name at its place in the list of all
abbrev pub asked_at : ℕ → Option Name → Option Asked
asked_at place name = option_map (λ (n : Name). record { name = n; place = place }) name

-- those of these texts that are names, from this place on
abbrev pub asked_in : ℕ → List (List ℕ) → List Asked
asked_in place [] = []
asked_in place (text ∷ texts) = cons_option (asked_at place (name_in text)) (asked_in (suc place) texts)

-- a name is this one
abbrev pub is_its : Option Source → ℕ → Asked → Bool
is_its source number a = nat_eq a.name.number number && same_source a.name.source source

-- and stands at this place
abbrev pub is_its_at : Option Source → ℕ → ℕ → Asked → Bool
is_its_at source number place a = is_its source number a && nat_eq a.place place

-- the names of a list of texts, by their numbers
pub record AreNamesOf (texts : List (List ℕ)) (names : List Asked) : Type 0 where
  pub rising : IsNonDecreasingBy (λ (a : Asked). a.name.number) names
  pub within : All (λ (a : Asked). a.place < length texts) names
  pub same : (p : Asked → Bool) → list_any p names ≡ list_any p (asked_in 0 texts)
