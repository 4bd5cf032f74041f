-- What leaves in a segment, and what is told of it, is told by its own events and what they are answered.
use Rattle.std.proofs.Common.{◌≡◌, ◌∙◌, refl, sym, ap, ℕ, ◌==◌, Bool, true, false, cond, ◌&&◌, List, [], ◌∷◌, ◌++◌, filter, Result}
use Rattle.std.specs.List.{flat_map}
use Rattle.std.proofs.lemmas.Grind.{flat_map-append}
use Rattle.std.proofs.lemmas.List.{map-append}
use Rattle.std.proofs.lemmas.List.Elements.{filter-append}
use Rattle.wire.specs.declared.ether.reason.Refused.{Refused}
use Rattle.overlay.specs.Change.{named}
use Rattle.overlay.specs.declared.settings.change.Change.{Change}
use Rattle.overlay.specs.declared.settings.change.Change.TheVariants.{AddFlood, RemoveFlood, Fix, Unfix, SetAgeing, SetLearning, SetMember, PortUp, PortDown, Flush, AddSegment, RemoveSegment, SetLimit}
use Rattle.endpoint_core.specs.State.{State as Bridges, aged}
use Rattle.endpoint_core.specs.Arrival.{Arrival}
use Rattle.endpoint_core.specs.Arrival.{came_at, came_by}
use Rattle.endpoint_core.specs.Event.{Input, FrameAt, Packet, Asks, Event}
use Rattle.endpoint_core.specs.Step.{State, decided, answer_by, after}
use Rattle.capture_run.specs.Sendings.{sent_by}
use Rattle.noninterference.specs.Alone.{is_segment}
use Rattle.noninterference.proofs.Stepping.{decided-segment}
use Rattle.noninterference.specs.Leaving.{Row, rows, Departure, decided_in, departure, departing, departures, departures_in, Line, line_of, lines, lines_in}
use Rattle.noninterference.proofs.Lists.{filter-flat_map, filter-none, filter-lines}
use Rattle.tenants_apart.specs.Own.{Needs, segment_met, is_own_change, names_or_concerns, own_rows}

-- an event at moment t with its answer
abbrev row_by : ℕ → Bridges → Input → Row
row_by t B input = record { event = record { at = t; input = input }; reply = answer_by t B input }

abbrev row_of : State → Event → Row
row_of s e = row_by e.at (aged e.at s.bridges) e.input

module _ (vid : ℕ) (needs : Needs) where
  -- what is taken of each row, where an event that isn't the segment's own gives nothing
  rows-own : {A : Type 0} (f : Row → List A) → ((s : State) (e : Event) → names_or_concerns vid needs s.bridges.settings e.input ≡ false → f (row_of s e) ≡ [])
      → (s : State) (es : List Event) → flat_map f (rows s es) ≡ flat_map f (own_rows vid needs s es)
  rows-own f nothing s [] = refl
  rows-own f nothing s (e ∷ es) = by (names_or_concerns vid needs s.bridges.settings e.input) refl (rows-own f nothing (after s e) es)
    where
      by : (b : Bool) → names_or_concerns vid needs s.bridges.settings e.input ≡ b → flat_map f (rows (after s e) es) ≡ flat_map f (own_rows vid needs (after s e) es)
          → f (row_of s e) ++ flat_map f (rows (after s e) es) ≡ flat_map f (cond b (row_of s e ∷ own_rows vid needs (after s e) es) (own_rows vid needs (after s e) es))
      by true own rest = ap (λ l. f (row_of s e) ++ l) rest
      by false other rest = ap (λ l. l ++ flat_map f (rows (after s e) es)) (nothing s e other) ∙ rest

  -- ---- what leaves

  abbrev leaves : Departure → Bool
  leaves d = is_segment vid d.segment

  none_of : (t : ℕ) (B : Bridges) (input : Input) (r : Result Arrival Refused) → decided_in (answer_by t B input) ≡ (decided t B r).segment → is_segment vid (segment_met r) ≡ false → filter leaves (departing (row_by t B input)) ≡ []
  none_of t B input r here other =
      filter-none leaves (departure (decided_in (answer_by t B input))) (λ s. ap (is_segment vid) (here ∙ decided-segment t B r) ∙ other) (sent_by t (answer_by t B input))

  nothing_leaves : (t : ℕ) (B : Bridges) (input : Input) → names_or_concerns vid needs B.settings input ≡ false → filter leaves (departing (row_by t B input)) ≡ []
  nothing_leaves t B (FrameAt port original b) other = none_of t B (FrameAt port original b) (came_at B.settings.ports B.settings.overlay port original b) refl other
  nothing_leaves t B (Packet original b) other = none_of t B (Packet original b) (came_by B.settings.overlay original b) refl other
  nothing_leaves t B (Asks c) other = refl

  pub departures-own : (s : State) (es : List Event) → departures_in vid (rows s es) ≡ departures_in vid (own_rows vid needs s es)
  departures-own s es =
      filter-flat_map leaves departing (rows s es)
      ∙ rows-own (λ row. filter leaves (departing row)) (λ s e other. nothing_leaves e.at (aged e.at s.bridges) e.input other) s es
      ∙ sym (filter-flat_map leaves departing (own_rows vid needs s es))

  -- ---- what is told

  abbrev tells : Line → Bool
  tells l = is_segment vid l.segment

  and-true : (a : Bool) → a && true ≡ false → a ≡ false
  and-true true h = h
  and-true false h = refl

  -- a line of another's change, or of one of a port, isn't the segment's
  named_apart : (c : Change) → is_own_change vid needs c ≡ false → is_segment vid (named c) ≡ false
  named_apart (AddFlood v addr tunnel) other = and-true (vid == v) other
  named_apart (RemoveFlood v addr tunnel) other = and-true (vid == v) other
  named_apart (Fix v mac target) other = and-true (vid == v) other
  named_apart (Unfix v mac) other = and-true (vid == v) other
  named_apart (SetAgeing v seconds) other = and-true (vid == v) other
  named_apart (SetLearning v on) other = and-true (vid == v) other
  named_apart (SetMember v port egress) other = and-true (vid == v) other
  named_apart (PortUp port) other = refl
  named_apart (PortDown port) other = refl
  named_apart (Flush v) other = and-true (vid == v) other
  named_apart (AddSegment new) other = and-true (vid == new.vid) other
  named_apart (RemoveSegment v) other = and-true (vid == v) other
  named_apart (SetLimit v limit) other = and-true (vid == v) other

  not_told : (row : Row) → tells (line_of row) ≡ false → filter tells (line_of row ∷ []) ≡ []
  not_told row other = ap (λ b. cond b (line_of row ∷ []) []) other

  nothing_told : (t : ℕ) (B : Bridges) (input : Input) → names_or_concerns vid needs B.settings input ≡ false → filter tells (line_of (row_by t B input) ∷ []) ≡ []
  nothing_told t B (FrameAt port original b) other =
      not_told (row_by t B (FrameAt port original b)) (ap (is_segment vid) (decided-segment t B (came_at B.settings.ports B.settings.overlay port original b)) ∙ other)
  nothing_told t B (Packet original b) other =
      not_told (row_by t B (Packet original b)) (ap (is_segment vid) (decided-segment t B (came_by B.settings.overlay original b)) ∙ other)
  nothing_told t B (Asks c) other = not_told (row_by t B (Asks c)) (named_apart c other)

  pub lines-own : (s : State) (es : List Event) → lines_in vid (rows s es) ≡ lines_in vid (own_rows vid needs s es)
  lines-own s es =
      filter-lines tells line_of (rows s es)
      ∙ rows-own (λ row. filter tells (line_of row ∷ [])) (λ s e other. nothing_told e.at (aged e.at s.bridges) e.input other) s es
      ∙ sym (filter-lines tells line_of (own_rows vid needs s es))

  -- ---- of rows, and then others

  departures-append : (rs ts : List Row) → departures_in vid (rs ++ ts) ≡ departures_in vid rs ++ departures_in vid ts
  departures-append rs ts = ap (filter leaves) (flat_map-append departing rs ts) ∙ filter-append leaves (departures rs) (departures ts)

  lines-append : (rs ts : List Row) → lines_in vid (rs ++ ts) ≡ lines_in vid rs ++ lines_in vid ts
  lines-append rs ts = ap (filter tells) (map-append line_of rs ts) ∙ filter-append tells (lines rs) (lines ts)

-- what is read of rows, in order: of events that aren't the segment's own it is nothing
pub record Reads (A : Type 0) (vid : ℕ) (needs : Needs) (f : List Row → List A) : Type 0 where
  pub own : (s : State) (es : List Event) → f (rows s es) ≡ f (own_rows vid needs s es)
  pub append : (rs ts : List Row) → f (rs ++ ts) ≡ f rs ++ f ts

pub reads-departures : (vid : ℕ) (needs : Needs) → Reads Departure vid needs (departures_in vid)
reads-departures vid needs = record { own = departures-own vid needs; append = departures-append vid needs }

pub reads-lines : (vid : ℕ) (needs : Needs) → Reads Line vid needs (lines_in vid)
reads-lines vid needs = record { own = lines-own vid needs; append = lines-append vid needs }
