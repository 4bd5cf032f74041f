-- Two lists that agree in what concerns a segment, others' comings, goings and limits among it, agree in its own events.
use Rattle.std.proofs.Common.{◌≡◌, ◌∙◌, refl, sym, ap, ℕ, Bool, true, false, cond, ◌||◌, ◌&&◌, List, [], ◌∷◌, ◌++◌, filter, Option, Some, None}
use Rattle.std.specs.Option.{option_and_then}
use Rattle.std.proofs.lemmas.Bool.{false≢true}
use Rattle.overlay.specs.declared.settings.change.Change.{Change}
use Rattle.overlay.specs.declared.settings.change.Change.TheVariants.{AddSegment, SetLimit}
use Rattle.endpoint_core.specs.declared.state.fault.ChangeFault.{ChangeFault}
use Rattle.endpoint_core.specs.Effect.{effect}
use Rattle.endpoint_core.specs.Change.{named, is_about, refused, table_fault}
use Rattle.endpoint_core.specs.Settings.{Settings, SegmentSettings, segment_at}
use Rattle.endpoint_core.specs.State.{State as Bridges, fault, aged}
use Rattle.endpoint_core.specs.Arrival.{came_at, came_by}
use Rattle.endpoint_core.specs.Event.{Input, FrameAt, Packet, Asks, Event, IsRising}
use Rattle.endpoint_core.specs.Step.{State, Answer, Decided, Replied, opened, answer_by, after}
use Rattle.noninterference.specs.Alone.{is_segment, all_see, concerns_by, concerns, only, Told, told_of, told, told_in}
use Rattle.noninterference.proofs.Running.{told-alone}
use Rattle.noninterference.proofs.Stepping.{decided-segment}
use Rattle.noninterference.specs.Leaving.{rows, departures_in, lines_in}
use Rattle.tenants_apart.specs.Own.{Needs, everything, is_needed, is_own_change, names_or_concerns, own_events, takes_room, asks_room, room_reply, room_replies}
use Rattle.tenants_apart.proofs.Running.{own_from, replies_from, own_from-is, replies_from-is, room-none}
use Rattle.tenants_apart.proofs.Enough.{enough-for}
use Rattle.tenants_apart.proofs.Events.{leaving-alike, lines-alike}

-- ---- what concerns a segment and is its own

-- of what concerns a segment its own is all but the changes that name another, and those of ports that it doesn't need
abbrev is_kept : ℕ → Needs → Input → Bool
is_kept vid needs (FrameAt port original b) = true
is_kept vid needs (Packet original b) = true
is_kept vid needs (Asks c) = is_own_change vid needs c

true-right : (b : Bool) → b ≡ b && true
true-right true = refl
true-right false = refl

about-kept : (a n b : Bool) → a && n ≡ (a || b) && (a && n)
about-kept true n b = refl
about-kept false n true = refl
about-kept false n false = refl

own-by : (vid : ℕ) (needs : Needs) (t : ℕ) (B : Bridges) (i : Input) → names_or_concerns vid needs B.settings i ≡ concerns_by vid (answer_by t B i) i && is_kept vid needs i
own-by vid needs t B (FrameAt port original b) =
    sym (ap (is_segment vid) (decided-segment t B (came_at B.settings.ports B.settings.overlay port original b))) ∙ true-right (concerns_by vid (answer_by t B (FrameAt port original b)) (FrameAt port original b))
own-by vid needs t B (Packet original b) =
    sym (ap (is_segment vid) (decided-segment t B (came_by B.settings.overlay original b))) ∙ true-right (concerns_by vid (answer_by t B (Packet original b)) (Packet original b))
own-by vid needs t B (Asks c) = about-kept (is_about vid c) (is_needed needs (effect c)) (all_see (effect c))

-- what doesn't concern it isn't its own
not_own : (vid : ℕ) (needs : Needs) (s : State) (e : Event) → concerns vid s e ≡ false → names_or_concerns vid needs s.bridges.settings e.input ≡ false
not_own vid needs s e other = own-by vid needs e.at (aged e.at s.bridges) e.input ∙ ap (λ b. b && is_kept vid needs e.input) other

module _ (vid : ℕ) (needs : Needs) where
  kept_of : List Event → List Event
  kept_of es = filter (λ e. is_kept vid needs e.input) es

  own-kept : (s : State) (es : List Event) → own_from vid needs s es ≡ kept_of (only vid s es)
  unfolding kept_of
  own-kept s [] = refl
  own-kept s (e ∷ es) =
      ap (λ b. cond b (e ∷ own_from vid needs (after s e) es) (own_from vid needs (after s e) es)) (own-by vid needs e.at (aged e.at s.bridges) e.input)
      ∙ by (concerns vid s e) (is_kept vid needs e.input) refl (own-kept (after s e) es)
    where
      by : (b c : Bool) → is_kept vid needs e.input ≡ c → own_from vid needs (after s e) es ≡ kept_of (only vid (after s e) es)
          → cond (b && c) (e ∷ own_from vid needs (after s e) es) (own_from vid needs (after s e) es) ≡ kept_of (cond b (e ∷ only vid (after s e) es) (only vid (after s e) es))
      by true true is rest = ap (λ l. e ∷ l) rest ∙ sym (ap (λ b. cond b (e ∷ kept_of (only vid (after s e) es)) (kept_of (only vid (after s e) es))) is)
      by true false is rest = rest ∙ sym (ap (λ b. cond b (e ∷ kept_of (only vid (after s e) es)) (kept_of (only vid (after s e) es))) is)
      by false c is rest = rest

  -- ---- what is answered to changes that need room

  none_there : (o : Option SegmentSettings) → (let none : Option ChangeFault = option_and_then (λ s. None) o in none) ≡ None
  none_there None = refl
  none_there (Some s) = refl

  -- no table refuses one
  faultless : (B : Bridges) (c : Change) → takes_room (effect c) ≡ true → option_and_then (λ v. option_and_then (λ s. table_fault s c (B.tables v)) (segment_at B.settings v)) (named c) ≡ None
  faultless B (AddSegment new) takes = none_there (segment_at B.settings new.vid)
  faultless B (SetLimit v limit) takes = none_there (segment_at B.settings v)
  faultless B c takes = absurd (false≢true takes)

  or_none : (o p : Option ChangeFault) → p ≡ None → (let first : Option ChangeFault = elim o [ Some why ↦ Some why | None ↦ p ] in first) ≡ o
  or_none None p none = none
  or_none (Some why) p none = refl

  pub fault-refused : (B : Bridges) (c : Change) → takes_room (effect c) ≡ true → fault B c ≡ refused B.settings c
  fault-refused B c takes = or_none (refused B.settings c) _ (faultless B c takes)

  -- what a change of its own was answered
  abbrev fault_in : Answer → Option ChangeFault
  fault_in (Decided decision) = None
  fault_in (Replied fault) = fault

  abbrev reply_in : Input → Answer → List (Option ChangeFault)
  reply_in (FrameAt port original b) a = []
  reply_in (Packet original b) a = []
  reply_in (Asks c) a = cond (asks_room vid c) (fault_in a ∷ []) []

  reply-in : (t : ℕ) (B : Bridges) (i : Input) → room_reply vid B.settings i ≡ reply_in i (answer_by t B i)
  reply-in t B (FrameAt port original b) = refl
  reply-in t B (Packet original b) = refl
  reply-in t B (Asks c) = by (takes_room (effect c)) (is_about vid c) (fault-refused B c)
    where
      by : (b d : Bool) → (b ≡ true → fault B c ≡ refused B.settings c) → cond (b && d) (refused B.settings c ∷ []) [] ≡ cond (b && d) (fault B c ∷ []) []
      by true true same = sym (ap (λ why. why ∷ []) (same refl))
      by true false same = refl
      by false d same = refl

  -- of events, each with what was told of it
  abbrev replies_in : List Event → List Told → List (Option ChangeFault)
  replies_in [] ts = []
  replies_in (e ∷ es) [] = []
  replies_in (e ∷ es) (t ∷ ts) = reply_in e.input t.reply ++ replies_in es ts

  replies-in : (s : State) (es : List Event) → replies_from vid needs s es ≡ replies_in (only vid s es) (told_in vid s es)
  replies-in s [] = refl
  replies-in s (e ∷ es) = by (concerns vid s e) refl (replies-in (after s e) es)
    where
      by : (b : Bool) → concerns vid s e ≡ b → replies_from vid needs (after s e) es ≡ replies_in (only vid (after s e) es) (told_in vid (after s e) es)
          → room_reply vid s.bridges.settings e.input ++ replies_from vid needs (after s e) es
          ≡ replies_in (cond b (e ∷ only vid (after s e) es) (only vid (after s e) es)) (cond b (told_of s e ∷ told_in vid (after s e) es) (told_in vid (after s e) es))
      by true is rest = λ i. reply-in e.at (aged e.at s.bridges) e.input i ++ rest i
      by false is rest = ap (λ l. l ++ replies_from vid needs (after s e) es) (room-none vid needs s.bridges.settings e.input (not_own vid needs s e is)) ∙ rest

  -- ---- two runs with the same settings

  module _ (S : Settings) (es fs : List Event) (up : IsRising 0 es) (rising : IsRising 0 fs) (same : only vid (opened S) es ≡ only vid (opened S) fs) where
    pub events-follow : own_events vid needs S es ≡ own_events vid needs S fs
    events-follow =
        sym (own_from-is vid needs (opened S) es) ∙ own-kept (opened S) es ∙ ap kept_of same ∙ sym (own-kept (opened S) fs) ∙ own_from-is vid needs (opened S) fs

    pub replies-follow : room_replies vid S es ≡ room_replies vid S fs
    replies-follow =
        let heard : told_in vid (opened S) es ≡ told_in vid (opened S) fs = sym (told-alone vid S es up) ∙ ap (told (opened S)) same ∙ told-alone vid S fs rising in
        sym (replies_from-is vid needs (opened S) es)
        ∙ replies-in (opened S) es
        ∙ (λ i. replies_in (same i) (heard i))
        ∙ sym (replies-in (opened S) fs)
        ∙ replies_from-is vid needs (opened S) fs

-- what `noninterference::laws::events` says
module _ (vid : ℕ) (S : Settings) (es fs : List Event) (up : IsRising 0 es) (rising : IsRising 0 fs) (same : only vid (opened S) es ≡ only vid (opened S) fs) where
  pub leaving-follows : departures_in vid (rows (opened S) es) ≡ departures_in vid (rows (opened S) fs)
  leaving-follows =
      leaving-alike vid everything S S es fs up rising (enough-for vid S es) refl (events-follow vid everything S es fs up rising same) (replies-follow vid everything S es fs up rising same)

  pub lines-follow : lines_in vid (rows (opened S) es) ≡ lines_in vid (rows (opened S) fs)
  lines-follow =
      lines-alike vid everything S S es fs up rising (enough-for vid S es) refl (events-follow vid everything S es fs up rising same) (replies-follow vid everything S es fs up rising same)
