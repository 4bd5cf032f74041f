-- A part of a run, event by event, beside the whole run.
use Rattle.std.proofs.Common.{◌≡◌, ℕ, Bool, true, false, cond, List, [], ◌∷◌, Option, Some, Result, refl, sym, ap, ◌∙◌}
use Rattle.std.proofs.Math.Path.{fun_ext}
use Rattle.wire.specs.declared.ether.reason.Refused.{Refused}
use Rattle.endpoint_core.specs.Settings.{Settings}
use Rattle.endpoint_core.specs.State.{State as Bridges, aged}
use Rattle.endpoint_core.specs.Arrival.{Arrival}
use Rattle.endpoint_core.specs.Arrival.{came_at, came_by}
use Rattle.endpoint_core.specs.Counts.{Counts, counted}
use Rattle.endpoint_core.specs.Event.{Input, FrameAt, Packet, Asks, Event}
use Rattle.endpoint_core.specs.Step.{State, Answer, Decided, Replied, opened, decided, after_came, answer_by, counts_after, answer, after, state_after}
use Rattle.noninterference.proofs.Stepping.{decided-segment}
use Rattle.noninterference.specs.Leaving.{told_in}
use Rattle.segment_set.specs.Segments.{Segments, holds}
use Rattle.endpoint_core.specs.Among.{segment_of, segment_in, is_told, after_untold_input, after_among}
use Rattle.segment_parts.specs.Pieces.{state_among, counted_among}
use Rattle.segment_parts.proofs.Keeping.{Alike, aged-alike, aged_twice, answer-alike, after-alike, came-passed}
use Rattle.segment_parts.proofs.Counting.{CountsIn, counted-told, counted-untold}

-- ---- the segment that is told

-- the segment that stands in the line of an event is the one by which it is told
pub told_in-is : (t : ℕ) (B : Bridges) (i : Input) → told_in i (answer_by t B i) ≡ segment_in B.settings i
told_in-is t B (FrameAt port original b) = decided-segment t B (came_at B.settings.ports B.settings.overlay port original b)
told_in-is t B (Packet original b) = decided-segment t B (came_by B.settings.overlay original b)
told_in-is t B (Asks c) = refl

-- ---- states

-- what a part keeps beside the whole run
pub record Keeps (p : Option ℕ → Bool) (s r : State) : Type 0 where
  pub bridges : Alike p s.bridges r.bridges
  pub counts : CountsIn p s.counts r.counts
  pub moment : s.moment ≡ r.moment

abbrev event : ℕ → Input → Event
event t i = record { at = t; input = i }

module _ (p : Option ℕ → Bool) where
  -- a decision of this segment
  abbrev Decides : Option ℕ → Answer → Type 0
  Decides segment (Decided decision) = decision.segment ≡ segment
  Decides segment (Replied fault) = Unit {0}

  decides : (t : ℕ) (B : Bridges) (i : Input) → Decides (segment_in B.settings i) (answer_by t B i)
  decides t B (FrameAt port original b) = decided-segment t B (came_at B.settings.ports B.settings.overlay port original b)
  decides t B (Packet original b) = decided-segment t B (came_by B.settings.overlay original b)
  decides t B (Asks c) = tt

  counts-told : (k l : Counts) (segment : Option ℕ) (a : Answer) → CountsIn p k l → Decides segment a → p segment ≡ true → CountsIn p (counts_after k a) (counts_after l a)
  counts-told k l segment (Decided decision) h is own = counted-told p k l decision h (ap p is ∙ own)
  counts-told k l segment (Replied fault) h is own = h

  -- the answer to an event that is told
  pub answers-kept : (s r : State) (e : Event) → Keeps p s r → p (segment_in s.bridges.settings e.input) ≡ true → answer s e ≡ answer r e
  answers-kept s r e h own = answer-alike p e.at (aged e.at s.bridges) (aged e.at r.bridges) (aged-alike p e.at s.bridges r.bridges h.bridges) e.input own

  -- the bridges of two endpoints that both take an event
  bridges-kept : (s r : State) (e : Event) → Keeps p s r → Alike p (after s e).bridges (after r e).bridges
  bridges-kept s r e h =
      let aged_both = aged-alike p e.at s.bridges r.bridges h.bridges in
      aged-alike p e.at _ _ (after-alike p e.at (aged e.at s.bridges) (aged e.at r.bridges) aged_both e.input)

  kept-told : (s r : State) (e : Event) → Keeps p s r → p (segment_in s.bridges.settings e.input) ≡ true → Keeps p (after s e) (after r e)
  kept-told s r e h own = record {
    bridges = bridges-kept s r e h;
    counts = λ x number.
        ap (λ (a : Answer). counts_after r.counts a x number) (sym (answers-kept s r e h own))
        ∙ counts-told s.counts r.counts (segment_in s.bridges.settings e.input) (answer s e) h.counts (decides e.at (aged e.at s.bridges) e.input) own x number;
    moment = refl;
  }

  -- a frame or a packet that is passed over
  passed-kept : (s r : State) (t : ℕ) (x : Result Arrival Refused) → Keeps p s r → p (segment_of x) ≡ false → Alike p (aged t (after_came t (aged t s.bridges) x)) (aged t r.bridges)
  passed-kept s r t x h other =
      aged_twice p t (after_came t (aged t s.bridges) x) r.bridges (came-passed p t (aged t s.bridges) (aged t r.bridges) (aged-alike p t s.bridges r.bridges h.bridges) x other)

  uncounted : (s r : State) (t : ℕ) (x : Result Arrival Refused) → Keeps p s r → p (segment_of x) ≡ false → CountsIn p (counted s.counts (decided t (aged t s.bridges) x)) r.counts
  uncounted s r t x h other = counted-untold p s.counts r.counts (decided t (aged t s.bridges) x) h.counts (ap p (decided-segment t (aged t s.bridges) x) ∙ other)

  -- an event that isn't told
  kept-untold : (s r : State) (t : ℕ) (i : Input) → Keeps p s r → p (segment_in s.bridges.settings i) ≡ false → Keeps p (after s (event t i)) (after_untold_input t r i)
  kept-untold s r t (FrameAt port original b) h other = record {
    bridges = passed-kept s r t (came_at s.bridges.settings.ports s.bridges.settings.overlay port original b) h other;
    counts = uncounted s r t (came_at s.bridges.settings.ports s.bridges.settings.overlay port original b) h other;
    moment = refl;
  }
  kept-untold s r t (Packet original b) h other = record {
    bridges = passed-kept s r t (came_by s.bridges.settings.overlay original b) h other;
    counts = uncounted s r t (came_by s.bridges.settings.overlay original b) h other;
    moment = refl;
  }
  kept-untold s r t (Asks c) h other = record { bridges = bridges-kept s r (event t (Asks c)) h; counts = h.counts; moment = refl }

module _ (segments : Segments) where
  -- an event is told to the part exactly where its segment is asked for
  pub told-is : (s r : State) (e : Event) → Keeps (holds segments) s r → holds segments (segment_in s.bridges.settings e.input) ≡ is_told segments r e
  told-is s r e h = ap (λ (S : Settings). holds segments (segment_in S e.input)) h.bridges.settings

  -- one event
  pub kept-step : (s r : State) (e : Event) → Keeps (holds segments) s r → Keeps (holds segments) (after s e) (after_among segments r e)
  kept-step s r e h = by (is_told segments r e) (told-is s r e h)
    where
      by : (b : Bool) → holds segments (segment_in s.bridges.settings e.input) ≡ b → Keeps (holds segments) (after s e) (cond b (after r e) (after_untold_input e.at r e.input))
      by true is = kept-told (holds segments) s r e h is
      by false is = kept-untold (holds segments) s r e.at e.input h is

  -- many events
  kept-run : (s r : State) (es : List Event) → Keeps (holds segments) s r → Keeps (holds segments) (state_after s es) (state_among segments r es)
  kept-run s r [] h = h
  kept-run s r (e ∷ es) h = kept-run (after s e) (after_among segments r e) es (kept-step s r e h)

  -- nothing is known and counted at the opening
  pub kept-opened : (S : Settings) → Keeps (holds segments) (opened S) (opened S)
  kept-opened S = record {
    bridges = record { settings = refl; tables = λ vid held. refl };
    counts = λ x number. nothing (holds segments x);
    moment = refl;
  }
    where
      nothing : (b : Bool) → ◌≡◌ {A = ℕ} 0 (cond b 0 0)
      nothing true = refl
      nothing false = refl

  kept : (S : Settings) (es : List Event) → Keeps (holds segments) (state_after (opened S) es) (state_among segments (opened S) es)
  kept S es = kept-run (opened S) (opened S) es (kept-opened S)

  pub settings-kept : (S : Settings) (es : List Event) → (state_among segments (opened S) es).bridges.settings ≡ (state_after (opened S) es).bridges.settings
  settings-kept S es = let k = kept S es in sym k.bridges.settings

  pub tables-kept : (S : Settings) (es : List Event) (vid : ℕ) → holds segments (Some vid) ≡ true → (state_among segments (opened S) es).bridges.tables vid ≡ (state_after (opened S) es).bridges.tables vid
  tables-kept S es vid held = let k = kept S es in sym (k.bridges.tables vid held)

  pub counts-kept : (S : Settings) (es : List Event) → (state_among segments (opened S) es).counts ≡ counted_among segments (state_after (opened S) es).counts
  counts-kept S es = let k = kept S es in fun_ext (λ x. fun_ext (λ number. k.counts x number))

  pub moment-kept : (S : Settings) (es : List Event) → (state_among segments (opened S) es).moment ≡ (state_after (opened S) es).moment
  moment-kept S es = let k = kept S es in sym k.moment
