-- What a run tells of a segment is told by the events that concern it, and by what they are answered.
use Rattle.std.proofs.Common.{◌≡◌, ◌∙◌, refl, sym, ap, ℕ, ◌==◌, Bool, true, false, cond, ◌||◌, List, [], ◌∷◌, ◌++◌, filter, Option, Some, None}
use Rattle.std.specs.Option.{option_map_or}
use Rattle.std.specs.List.{flat_map}
use Rattle.std.proofs.lemmas.Bool.{false≢true}
use Rattle.overlay.specs.Change.{named}
use Rattle.endpoint_core.specs.Settings.{Settings}
use Rattle.endpoint_core.specs.State.{State as Bridges, aged}
use Rattle.endpoint_core.specs.Effect.{effect}
use Rattle.endpoint_core.specs.Event.{Input, FrameAt, Packet, Asks, Event, IsRising}
use Rattle.endpoint_core.specs.Step.{State, opened, answer_by, after}
use Rattle.capture_run.specs.Sendings.{sent_by}
use Rattle.noninterference.specs.Alone.{is_segment, all_see, concerns_by, concerns, only, Told, told_of, told, told_in}
use Rattle.noninterference.proofs.Running.{told-alone}
use Rattle.noninterference.specs.Leaving.{Row, rows, Departure, decided_in, departure, departing, departures_in, Line, line_of, lines_in}
use Rattle.noninterference.proofs.Lists.{filter-flat_map, filter-none, filter-lines}

-- events, each with what is told of it
abbrev paired : List Event → List Told → List Row
paired [] ts = []
paired (e ∷ es) [] = []
paired (e ∷ es) (t ∷ ts) = record { event = e; reply = t.reply } ∷ paired es ts

-- an event at moment t with its answer
abbrev row_by : ℕ → Bridges → Input → Row
row_by t B input = record { event = record { at = t; input = input }; reply = answer_by t B input }

abbrev row_of : State → Event → Row
row_of s e = row_by e.at (aged e.at s.bridges) e.input

module _ (vid : ℕ) where
  -- what is taken of each row, where an event that doesn't concern the segment gives nothing
  rows-paired : {A : Type 0} (f : Row → List A) → ((s : State) (e : Event) → concerns vid s e ≡ false → f (row_of s e) ≡ [])
      → (s : State) (es : List Event) → flat_map f (rows s es) ≡ flat_map f (paired (only vid s es) (told_in vid s es))
  rows-paired f nothing s [] = refl
  rows-paired f nothing s (e ∷ es) = by (concerns vid s e) refl (rows-paired f nothing (after s e) es)
    where
      by : (b : Bool) → concerns vid s e ≡ b
          → flat_map f (rows (after s e) es) ≡ flat_map f (paired (only vid (after s e) es) (told_in vid (after s e) es))
          → f (row_of s e) ++ flat_map f (rows (after s e) es)
          ≡ flat_map f (paired (cond b (e ∷ only vid (after s e) es) (only vid (after s e) es)) (cond b (told_of s e ∷ told_in vid (after s e) es) (told_in vid (after s e) es)))
      by true own rest = ap (λ l. f (row_of s e) ++ l) rest
      by false other rest = ap (λ l. l ++ flat_map f (rows (after s e) es)) (nothing s e other) ∙ rest

  told-same : (S : Settings) (es fs : List Event) → IsRising 0 es → IsRising 0 fs → only vid (opened S) es ≡ only vid (opened S) fs
      → told_in vid (opened S) es ≡ told_in vid (opened S) fs
  told-same S es fs up rising same = sym (told-alone vid S es up) ∙ ap (told (opened S)) same ∙ told-alone vid S fs rising

  taken-same : {A : Type 0} (f : Row → List A) → ((s : State) (e : Event) → concerns vid s e ≡ false → f (row_of s e) ≡ [])
      → (S : Settings) (es fs : List Event) → IsRising 0 es → IsRising 0 fs → only vid (opened S) es ≡ only vid (opened S) fs
      → flat_map f (rows (opened S) es) ≡ flat_map f (rows (opened S) fs)
  taken-same f nothing S es fs up rising same =
      rows-paired f nothing (opened S) es
      ∙ ap (λ l. flat_map f (paired l (told_in vid (opened S) es))) same
      ∙ ap (λ l. flat_map f (paired (only vid (opened S) fs) l)) (told-same S es fs up rising same)
      ∙ sym (rows-paired f nothing (opened S) fs)

  -- ---- what leaves

  abbrev leaves : Departure → Bool
  leaves d = is_segment vid d.segment

  none_of : (row : Row) → is_segment vid (decided_in row.reply) ≡ false → filter leaves (departing row) ≡ []
  none_of row other = filter-none leaves (departure (decided_in row.reply)) (λ s. other) (sent_by row.event.at row.reply)

  nothing_leaves : (t : ℕ) (B : Bridges) (input : Input) → concerns_by vid (answer_by t B input) input ≡ false → filter leaves (departing (row_by t B input)) ≡ []
  nothing_leaves t B (FrameAt port original b) other = none_of (row_by t B (FrameAt port original b)) other
  nothing_leaves t B (Packet original b) other = none_of (row_by t B (Packet original b)) other
  nothing_leaves t B (Asks c) other = refl

  pub leaving-same : (S : Settings) (es fs : List Event) → IsRising 0 es → IsRising 0 fs → only vid (opened S) es ≡ only vid (opened S) fs
      → departures_in vid (rows (opened S) es) ≡ departures_in vid (rows (opened S) fs)
  leaving-same S es fs up rising same =
      filter-flat_map leaves departing (rows (opened S) es)
      ∙ taken-same (λ row. filter leaves (departing row)) (λ s e other. nothing_leaves e.at (aged e.at s.bridges) e.input other) S es fs up rising same
      ∙ sym (filter-flat_map leaves departing (rows (opened S) fs))

  -- ---- what is told

  abbrev tells : Line → Bool
  tells l = is_segment vid l.segment

  named_apart : (segment : Option ℕ) (seen : Bool) → (option_map_or (λ own. vid == own) segment true || seen) ≡ false → is_segment vid segment ≡ false
  named_apart None seen other = absurd (false≢true (sym other))
  named_apart (Some own) seen other = by (vid == own) other
    where
      by : (b : Bool) → (b || seen) ≡ false → b ≡ false
      by true is = absurd (false≢true (sym is))
      by false is = refl

  not_told : (row : Row) → tells (line_of row) ≡ false → filter tells (line_of row ∷ []) ≡ []
  not_told row other = ap (λ b. cond b (line_of row ∷ []) []) other

  nothing_told : (t : ℕ) (B : Bridges) (input : Input) → concerns_by vid (answer_by t B input) input ≡ false → filter tells (line_of (row_by t B input) ∷ []) ≡ []
  nothing_told t B (FrameAt port original b) other = not_told (row_by t B (FrameAt port original b)) other
  nothing_told t B (Packet original b) other = not_told (row_by t B (Packet original b)) other
  nothing_told t B (Asks c) other = not_told (row_by t B (Asks c)) (named_apart (named c) (all_see (effect c)) other)

  pub lines-same : (S : Settings) (es fs : List Event) → IsRising 0 es → IsRising 0 fs → only vid (opened S) es ≡ only vid (opened S) fs
      → lines_in vid (rows (opened S) es) ≡ lines_in vid (rows (opened S) fs)
  lines-same S es fs up rising same =
      filter-lines tells line_of (rows (opened S) es)
      ∙ taken-same (λ row. filter tells (line_of row ∷ [])) (λ s e other. nothing_told e.at (aged e.at s.bridges) e.input other) S es fs up rising same
      ∙ sym (filter-lines tells line_of (rows (opened S) fs))
