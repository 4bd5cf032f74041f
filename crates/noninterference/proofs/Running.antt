-- A run among all events, and the run of those that concern a segment.
use Rattle.std.proofs.Common.{◌≡◌, ℕ, ◌≤◌, Bool, true, false, cond, List, [], ◌∷◌, ◌++◌, Option, Some, None, is_some, refl, sym, ap, ◌∙◌, le_trans, le_refl}
use Rattle.std.specs.Option.{option_map, option_and_then}
use Rattle.overlay.specs.Ports.{Members, members_at}
use Rattle.overlay.specs.Overlay.{segment_at as overlay_segment}
use Rattle.overlay.specs.declared.underlay.segment.Segment.{Segment}
use Rattle.overlay.specs.declared.underlay.tunnels.SegmentTunnel.{SegmentTunnel}
use Rattle.endpoint_core.specs.Settings.{Settings, BridgeSettings}
use Rattle.endpoint_core.specs.State.{live_in, aged}
use Rattle.endpoint_core.specs.Event.{Event, IsRising}
use Rattle.endpoint_core.specs.Step.{State, opened, answer, after, state_after}
use Rattle.endpoint_core.proofs.Runs.{live_in-live_in}
use Rattle.noninterference.specs.Alone.{concerns_by, concerns, only, Told, told_of, told, told_in, Summary, summary_of, summary_at, Agree}
use Rattle.noninterference.proofs.Finding.{tunnels}
use Rattle.noninterference.proofs.Seeing.{Seen, View, seen, viewed, own_by, own_of, limit_of}
use Rattle.noninterference.proofs.Stepping.{answer-same, after-same, after-other}

-- ---- ageing

abbrev aged_view : ℕ → View → View
aged_view t w = record { settings = w.settings; table = live_in w.settings.bridge t w.table }

-- what is dead may be forgotten early
aged_view-twice : (t u : ℕ) (w : View) → t ≤ u → aged_view u (aged_view t w) ≡ aged_view u w
aged_view-twice t u w h = ap (λ m. let left : View = record { settings = w.settings; table = m } in left) (live_in-live_in w.settings.bridge t u w.table h)

-- ---- s is reached among all events, and r by those that concern the segment

-- from the moment of s on they look alike to it
pub Related : ℕ → State → State → Type 0
Related vid s r = (t : ℕ) → s.moment ≤ t → viewed vid (aged t s.bridges) ≡ viewed vid (aged t r.bridges)

Related-itself : (vid : ℕ) (s : State) → Related vid s s
unfolding Related
Related-itself vid s t from = refl

module _ (vid : ℕ) where
  Related-kept : (s r : State) (e : Event) → s.moment ≤ e.at → Related vid s r → concerns vid s e ≡ true → Related vid (after s e) (after r e)
  unfolding Related
  Related-kept s r e later h own t from =
      ap (λ (w : View). aged_view t (aged_view e.at w)) (after-same vid e.at (aged e.at s.bridges) (aged e.at r.bridges) (h e.at later) e.input own)

  Related-other : (s r : State) (e : Event) → s.moment ≤ e.at → Related vid s r → concerns vid s e ≡ false → Related vid (after s e) r
  unfolding Related
  Related-other s r e later h other t from =
      ap (λ (w : View). aged_view t (aged_view e.at w)) (after-other vid e.at (aged e.at s.bridges) e.input other)
      ∙ ap (aged_view t) (aged_view-twice e.at e.at (viewed vid s.bridges) (le_refl e.at))
      ∙ aged_view-twice e.at t (viewed vid s.bridges) from
      ∙ h t (le_trans later from)

  answers-same : (s r : State) (e : Event) → s.moment ≤ e.at → Related vid s r → concerns vid s e ≡ true → answer s e ≡ answer r e
  unfolding Related
  answers-same s r e later h own = answer-same vid e.at (aged e.at s.bridges) (aged e.at r.bridges) (h e.at later) e.input own

  -- ---- whole runs

  -- what holds where no event is left holds of a whole run, if one that concerns the segment, which both runs have, passes it
  -- on, and so does one that doesn't
  along : (P : State → State → List Event → Type 0) → ((s r : State) → Related vid s r → P s r [])
      → ((s r : State) (e : Event) (es : List Event) → s.moment ≤ e.at → Related vid s r → concerns vid s e ≡ true → P (after s e) (after r e) es → P s r (e ∷ es))
      → ((s r : State) (e : Event) (es : List Event) → concerns vid s e ≡ false → P (after s e) r es → P s r (e ∷ es))
      → (s r : State) (es : List Event) → IsRising s.moment es → Related vid s r → P s r es
  along P none own other s r [] rising h = none s r h
  along P none own other s r (e ∷ es) rising h =
      by (λ is. along P none own other (after s e) (after r e) es rising.1 (Related-kept s r e rising.0 h is))
      (λ is. along P none own other (after s e) r es rising.1 (Related-other s r e rising.0 h is))
      (concerns vid s e) refl
    where
      by : (concerns vid s e ≡ true → P (after s e) (after r e) es) → (concerns vid s e ≡ false → P (after s e) r es) → (b : Bool) → concerns vid s e ≡ b → P s r (e ∷ es)
      by own_it other_it true is = own s r e es rising.0 h is (own_it is)
      by own_it other_it false is = other s r e es is (other_it is)

  pub told-same : (s r : State) (es : List Event) → IsRising s.moment es → Related vid s r → told r (only vid s es) ≡ told_in vid s es
  told-same =
      along (λ s r es. told r (only vid s es) ≡ told_in vid s es) (λ s r h. refl)
      (λ s r e es later h own more.
      let same : answer r e ≡ answer s e = sym (answers-same s r e later h own) in
      rw own (λ i. (let first : Told = record { at = e.at; reply = same i } in first) ∷ more i))
      (λ s r e es other more. rw other more)

  pub Related-run : (s r : State) (es : List Event) → IsRising s.moment es → Related vid s r → Related vid (state_after s es) (state_after r (only vid s es))
  Related-run =
      along (λ s r es. Related vid (state_after s es) (state_after r (only vid s es))) (λ s r h. h)
      (λ s r e es later h own more. rw own more)
      (λ s r e es other more. rw other more)

  -- what is left concerns the segment alone, too
  only-settled : (s r : State) (es : List Event) → IsRising s.moment es → Related vid s r → only vid r (only vid s es) ≡ only vid s es
  only-settled =
      along (λ s r es. only vid r (only vid s es) ≡ only vid s es) (λ s r h. refl)
      (λ s r e es later h own more.
      let again : concerns vid r e ≡ true = ap (λ a. concerns_by vid a e.input) (sym (answers-same s r e later h own)) ∙ own in
      rw (own, again) (ap (λ rest. e ∷ rest) more))
      (λ s r e es other more. rw other more)

  pub only-append : (s : State) (es others : List Event) → only vid s (es ++ others) ≡ only vid s es ++ only vid (state_after s es) others
  only-append s [] others = refl
  only-append s (e ∷ es) others = by (only-append (after s e) es others) (concerns vid s e)
    where
      by : only vid (after s e) (es ++ others) ≡ only vid (after s e) es ++ only vid (state_after (after s e) es) others
          → (b : Bool)
          → cond b (e ∷ only vid (after s e) (es ++ others)) (only vid (after s e) (es ++ others)) ≡ cond b (e ∷ only vid (after s e) es) (only vid (after s e) es) ++ only vid (state_after (after s e) es) others
      by rest true = ap (λ l. e ∷ l) rest
      by rest false = rest

  pub only-rising : (s : State) (t u : ℕ) (es : List Event) → t ≤ u → IsRising u es → IsRising t (only vid s es)
  only-rising s t u [] lower rising = tt
  only-rising s t u (e ∷ es) lower rising =
      by (only-rising (after s e) e.at e.at es (le_refl e.at) rising.1) (only-rising (after s e) t e.at es (le_trans lower rising.0) rising.1) (concerns vid s e)
    where
      by : IsRising e.at (only vid (after s e) es) → IsRising t (only vid (after s e) es) → (b : Bool) → IsRising t (cond b (e ∷ only vid (after s e) es) (only vid (after s e) es))
      by kept skipped true = (le_trans lower rising.0, kept)
      by kept skipped false = skipped

-- ---- what both agree on

-- what is known of a segment in every other, by what each has of its parts
abbrev known_by : Option ℕ → Option (List SegmentTunnel) → Bool → Option Summary
known_by limit ts stands = option_and_then (λ l. option_and_then (λ k. cond stands (Some (record { tunnels = k; limit = l })) None) ts) limit

known-is : (bridge : Option BridgeSettings) (segment : Option Segment) (members : Option Members) → option_map summary_of (own_by bridge segment members) ≡ known_by (limit_of bridge) (option_map tunnels segment) (is_some members)
known-is None segment members = refl
known-is (Some b) None members = refl
known-is (Some b) (Some g) None = refl
known-is (Some b) (Some g) (Some m) = refl

summary-same : (vid w : ℕ) (S T : Settings) → seen vid S ≡ seen vid T → summary_at S w ≡ summary_at T w
summary-same vid w S T h =
    known-is (S.bridges w) (overlay_segment S.overlay w) (members_at S.ports w)
    ∙ ap (λ (x : Seen). known_by (x.limits w) (x.tunnels w) (x.stands w)) h
    ∙ sym (known-is (T.bridges w) (overlay_segment T.overlay w) (members_at T.ports w))

Agree-related : (vid : ℕ) (s r : State) (t : ℕ) → s.moment ≤ t → Related vid s r → Agree vid t s.bridges r.bridges
unfolding Related
Agree-related vid s r t later h =
    let settings : seen vid s.bridges.settings ≡ seen vid r.bridges.settings = ap (λ (w : View). w.settings) (h t later) in
    record {
      table = λ u from. ap (λ (w : View). w.table) (h u (le_trans later from));
      settings = ap own_of settings;
      ports = ap (λ (x : Seen). x.ports) settings;
      underlay = ap (λ (x : Seen). x.underlay) settings;
      pool = ap (λ (x : Seen). x.pool) settings;
      segments = λ w. summary-same vid w s.bridges.settings r.bridges.settings settings;
    }

-- ---- from the opening on

rising_front : (t : ℕ) (es : List Event) (e : Event) → IsRising t (es ++ e ∷ []) → IsRising t es
rising_front t [] e h = tt
rising_front t (x ∷ es) e h = (h.0, rising_front x.at es e h.1)

rising_last : (s : State) (es : List Event) (e : Event) → IsRising s.moment (es ++ e ∷ []) → (state_after s es).moment ≤ e.at
rising_last s [] e h = h.0
rising_last s (x ∷ es) e h = rising_last (after s x) es e h.1

pub told-alone : (vid : ℕ) (S : Settings) (es : List Event) → IsRising 0 es → told (opened S) (only vid (opened S) es) ≡ told_in vid (opened S) es
told-alone vid S es rising = told-same vid (opened S) (opened S) es rising (Related-itself vid (opened S))

pub settled-alone : (vid : ℕ) (S : Settings) (es : List Event) → IsRising 0 es → only vid (opened S) (only vid (opened S) es) ≡ only vid (opened S) es
settled-alone vid S es rising = only-settled vid (opened S) (opened S) es rising (Related-itself vid (opened S))

pub agree-alone : (vid : ℕ) (S : Settings) (es : List Event) (e : Event) → IsRising 0 (es ++ e ∷ []) → Agree vid e.at (state_after (opened S) es).bridges (state_after (opened S) (only vid (opened S) es)).bridges
agree-alone vid S es e rising =
    Agree-related vid (state_after (opened S) es) (state_after (opened S) (only vid (opened S) es)) e.at (rising_last (opened S) es e rising)
    (Related-run vid (opened S) (opened S) es (rising_front 0 es e rising) (Related-itself vid (opened S)))
