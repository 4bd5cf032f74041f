-- Of others a segment feels the want of room, and nothing else.
use Rattle.std.proofs.Common.{◌≡◌, ◌∙◌, refl, sym, ap, subst, ◌++◌, ℕ, ◌+◌, ◌==◌, ◌||◌, Bool, true, false, cond, not, nat_lt, ◌&&◌, List, [], ◌∷◌, Option, Some, None}
use Rattle.std.specs.List.{AllByRecursion}
use Rattle.std.specs.Prelude.{is_some}
use Rattle.std.proofs.lemmas.Bool.{false≢true}
use Rattle.std.proofs.lemmas.Option.{none-some}
use Rattle.wire.specs.First.{first}
use Rattle.filter_db.specs.Standing.{sum_of_limits, segment_count}
use Rattle.overlay.specs.declared.settings.change.Change.{Change}
use Rattle.overlay.specs.declared.settings.change.Change.TheVariants.{AddSegment, SetLimit}
use Rattle.overlay.specs.declared.settings.change.NewSegment.{NewSegment}
use Rattle.endpoint_core.specs.declared.state.fault.ChangeFault.{ChangeFault}
use Rattle.endpoint_core.specs.declared.state.fault.ChangeFault.TheVariants.{OutOfRange, SegmentThere, SegmentsFull, PoolFull}
use Rattle.endpoint_core.specs.Settings.{Settings, SegmentSettings, segment_at, tables_asked}
use Rattle.endpoint_core.specs.Effect.{Effect, ToFlood, ToBridge, ToLimit, ToMembers, ToPort, Comes, Goes, ToNothing, effect}
use Rattle.endpoint_core.specs.Event.{Input, FrameAt, Packet, Asks, Event}
use Rattle.endpoint_core.specs.Run.{settings_after_input}
use Rattle.overlay.specs.Overlay.{are_free}
use Rattle.endpoint_core.specs.Change.{is_about, in_segment, is_limit, is_ageing, are_vnis, is_taken, is_too_much, refused}
use Rattle.tenants_apart.specs.Own.{Needs, Part, part_of, is_needed, is_own_change, asks_within, is_within, AreWithin, names_or_concerns, own_events, takes_room, asks_room, room_reply, room_replies, is_want, wants_room, is_there, lacks_room, HasRoom}
use Rattle.tenants_apart.proofs.Changing.{own-about, own-needed, changed-own, changed-other}
use Rattle.tenants_apart.proofs.Running.{same-head, same-tail, never-empty, room-none}
use Rattle.tenants_apart.proofs.Stepping.{AreRoomAlike}
use Rattle.tenants_apart.proofs.Refusing.{whole_of, part-named, refused-own}

-- ---- where only the first cause isn't of others

abbrev AllWant : List (ChangeFault × Bool) → Type 0
AllWant rows = AllByRecursion (λ row. is_want row.0 ≡ true) rows

-- no cause holds, if not one of others
pub none-wants : (rows : List (ChangeFault × Bool)) → AllWant rows → wants_room (first rows) ≡ false → first rows ≡ None
none-wants [] all calm = refl
none-wants (row ∷ rows) all calm = by row.1 (none-wants rows all.1) calm
  where
    by : (b : Bool) → (wants_room (first rows) ≡ false → first rows ≡ None) → wants_room (cond b (Some row.0) (first rows)) ≡ false → cond b (Some row.0) (first rows) ≡ None
    by true rest calm = absurd (false≢true (sym calm ∙ all.0))
    by false rest calm = rest calm

first-same : (row : ChangeFault × Bool) (rows others : List (ChangeFault × Bool)) → AllWant rows → AllWant others → wants_room (first (row ∷ rows)) ≡ false → wants_room (first (row ∷ others)) ≡ false → first (row ∷ rows) ≡ first (row ∷ others)
first-same row rows others all both calm quiet = by row.1 calm quiet
  where
    by : (b : Bool) → wants_room (cond b (Some row.0) (first rows)) ≡ false → wants_room (cond b (Some row.0) (first others)) ≡ false → cond b (Some row.0) (first rows) ≡ cond b (Some row.0) (first others)
    by true x y = refl
    by false x y = none-wants rows all x ∙ sym (none-wants others both y)

-- ---- the two changes

comes-same : (S T : Settings) (new : NewSegment) → is_limit S.overlay.underlay.limits.entries new.limit ≡ is_limit T.overlay.underlay.limits.entries new.limit
    → wants_room (refused S (AddSegment new)) ≡ false → wants_room (refused T (AddSegment new)) ≡ false → refused S (AddSegment new) ≡ refused T (AddSegment new)
comes-same S T new allowed calm quiet =
    let row : Bool → ChangeFault × Bool = λ b. (OutOfRange, not (b && is_ageing new.ageing && are_vnis new.tunnels)) in
    let others : List (ChangeFault × Bool) = (SegmentThere, is_taken T new) ∷ (SegmentsFull, not (nat_lt (segment_count (tables_asked T)) T.overlay.underlay.limits.segments)) ∷ (PoolFull, is_too_much T new.limit) ∷ [] in
    first-same (row (is_limit S.overlay.underlay.limits.entries new.limit))
    ((SegmentThere, is_taken S new) ∷ (SegmentsFull, not (nat_lt (segment_count (tables_asked S)) S.overlay.underlay.limits.segments)) ∷ (PoolFull, is_too_much S new.limit) ∷ [])
    others (refl, (refl, (refl, tt))) (refl, (refl, (refl, tt))) calm (ap (λ (b : Bool). wants_room (first (row b ∷ others))) allowed ∙ quiet)
    ∙ ap (λ (b : Bool). first (row b ∷ others)) allowed

limited-same : (S T : Settings) (limit : ℕ) → is_limit S.overlay.underlay.limits.entries limit ≡ is_limit T.overlay.underlay.limits.entries limit → (o p : Option SegmentSettings) → o ≡ p
    → (let asked : Settings → Option SegmentSettings → Option ChangeFault = λ R q. in_segment q (λ s. first ((OutOfRange, not (is_limit R.overlay.underlay.limits.entries limit)) ∷ (PoolFull, nat_lt (R.pool + s.limit) (sum_of_limits (tables_asked R) + limit)) ∷ [])) in
    wants_room (asked S o) ≡ false → wants_room (asked T p) ≡ false → asked S o ≡ asked T p)
limited-same S T limit allowed None None same calm quiet = refl
limited-same S T limit allowed None (Some s) same calm quiet = absurd (none-some s same)
limited-same S T limit allowed (Some s) None same calm quiet = absurd (none-some s (sym same))
limited-same S T limit allowed (Some s) (Some r) same calm quiet =
    let row : Bool → ChangeFault × Bool = λ b. (OutOfRange, not b) in
    let others : List (ChangeFault × Bool) = (PoolFull, nat_lt (T.pool + r.limit) (sum_of_limits (tables_asked T) + limit)) ∷ [] in
    first-same (row (is_limit S.overlay.underlay.limits.entries limit))
    ((PoolFull, nat_lt (S.pool + s.limit) (sum_of_limits (tables_asked S) + limit)) ∷ [])
    others (refl, tt) (refl, tt) calm (ap (λ (b : Bool). wants_room (first (row b ∷ others))) allowed ∙ quiet)
    ∙ ap (λ (b : Bool). first (row b ∷ others)) allowed

-- a limit that it needs is allowed in both or in neither
pub allowed-needed : (vid : ℕ) (needs : Needs) (S T : Settings) → part_of vid needs S ≡ part_of vid needs T → (limit : ℕ) → needs.limits limit ≡ true → is_limit S.overlay.underlay.limits.entries limit ≡ is_limit T.overlay.underlay.limits.entries limit
allowed-needed vid needs S T h limit within =
    ap (λ (b : Bool). b && is_limit S.overlay.underlay.limits.entries limit) (sym within)
    ∙ ap (λ (x : Part). x.shared.allowed limit) h
    ∙ ap (λ (b : Bool). b && is_limit T.overlay.underlay.limits.entries limit) within

-- a segment that is there doesn't come again
refused-there : (vid : ℕ) (needs : Needs) (S T : Settings) → part_of vid needs S ≡ part_of vid needs T → (new : NewSegment) → (vid == new.vid) ≡ true → is_limit S.overlay.underlay.limits.entries new.limit ≡ is_limit T.overlay.underlay.limits.entries new.limit
    → is_some (segment_at S new.vid) ≡ true → refused S (AddSegment new) ≡ refused T (AddSegment new)
refused-there vid needs S T h new about allowed there =
    let short : Bool → Option ChangeFault = λ b. first ((OutOfRange, not (b && is_ageing new.ageing && are_vnis new.tunnels)) ∷ (SegmentThere, true) ∷ []) in
    let too : is_some (segment_at T new.vid) ≡ true = ap (λ (x : Part). is_some (whole_of x)) (sym (part-named vid new.vid needs S T h about)) ∙ there in
    ap (λ (b : Bool). first
    ((OutOfRange, not (is_limit S.overlay.underlay.limits.entries new.limit && is_ageing new.ageing && are_vnis new.tunnels))
    ∷ (SegmentThere, b || not (are_free S.overlay new.tunnels))
    ∷ (SegmentsFull, not (nat_lt (segment_count (tables_asked S)) S.overlay.underlay.limits.segments))
    ∷ (PoolFull, is_too_much S new.limit)
    ∷ [])) there
    ∙ ap short allowed
    ∙ sym (ap (λ (b : Bool). first
    ((OutOfRange, not (is_limit T.overlay.underlay.limits.entries new.limit && is_ageing new.ageing && are_vnis new.tunnels))
    ∷ (SegmentThere, b || not (are_free T.overlay new.tunnels))
    ∷ (SegmentsFull, not (nat_lt (segment_count (tables_asked T)) T.overlay.underlay.limits.segments))
    ∷ (PoolFull, is_too_much T new.limit)
    ∷ [])) too)

-- ---- room

pub but-right : (a b : Bool) → a ≡ true → a && b ≡ false → b ≡ false
but-right true b is h = h
but-right false b is h = absurd (false≢true is)

pub but-left : (a b : Bool) → b ≡ false → a && not b ≡ false → a ≡ false
but-left true b is h = sym (ap not is) ∙ h
but-left false b is h = refl

pub from-wants : (vid : ℕ) (S : Settings) (c : Change) → wants_room (refused S c) ≡ false → lacks_room vid S (Asks c) ≡ false
from-wants vid S c calm = ap (λ (b : Bool). asks_room vid c && (b && not (is_there S c))) calm ∙ by (asks_room vid c)
  where
    by : (b : Bool) → b && false ≡ false
    by true = refl
    by false = refl

-- a change of the segment's own is refused alike, where it doesn't lack room
pub refused-calm : (vid : ℕ) (needs : Needs) (S T : Settings) (c : Change) → part_of vid needs S ≡ part_of vid needs T → is_own_change vid needs c ≡ true → asks_within needs S c ≡ true → lacks_room vid S (Asks c) ≡ false → lacks_room vid T (Asks c) ≡ false → refused S c ≡ refused T c
refused-calm vid needs S T c h own within calm quiet = refused-own vid needs S T h c (own-about vid needs c own) (own-needed vid needs c own) within (by c (own-about vid needs c own) within calm quiet)
  where
    by : (c : Change) → is_about vid c ≡ true → asks_within needs S c ≡ true → lacks_room vid S (Asks c) ≡ false → lacks_room vid T (Asks c) ≡ false → asks_room vid c ≡ true → refused S c ≡ refused T c
    by (AddSegment new) is inside x y asks = choose (is_some (segment_at S new.vid)) refl
      where
        allowed : is_limit S.overlay.underlay.limits.entries new.limit ≡ is_limit T.overlay.underlay.limits.entries new.limit
        allowed = allowed-needed vid needs S T h new.limit inside

        choose : (b : Bool) → is_some (segment_at S new.vid) ≡ b → refused S (AddSegment new) ≡ refused T (AddSegment new)
        choose true there = refused-there vid needs S T h new is allowed there
        choose false absent =
            let gone : is_some (segment_at T new.vid) ≡ false = ap (λ (z : Part). is_some (whole_of z)) (sym (part-named vid new.vid needs S T h is)) ∙ absent in
            comes-same S T new allowed
            (but-left (wants_room (refused S (AddSegment new))) (is_some (segment_at S new.vid)) absent (but-right (vid == new.vid) _ is x))
            (but-left (wants_room (refused T (AddSegment new))) (is_some (segment_at T new.vid)) gone (but-right (vid == new.vid) _ is y))
    by (SetLimit v limit) is inside x y asks =
        limited-same S T limit (allowed-needed vid needs S T h limit inside) (segment_at S v) (segment_at T v) (ap whole_of (part-named vid v needs S T h is))
        (but-left (wants_room (refused S (SetLimit v limit))) false refl (but-right (vid == v) _ is x)) (but-left (wants_room (refused T (SetLimit v limit))) false refl (but-right (vid == v) _ is y))
    by c is inside x y asks = absurd (false≢true asks)

-- ---- the settings after an event

pub part-kept : (vid : ℕ) (needs : Needs) (S T : Settings) → part_of vid needs S ≡ part_of vid needs T → (i : Input) → names_or_concerns vid needs S i ≡ true → AreRoomAlike vid S T i → is_within needs S i ≡ true → part_of vid needs (settings_after_input S i) ≡ part_of vid needs (settings_after_input T i)
part-kept vid needs S T h (FrameAt port original b) own room within = h
part-kept vid needs S T h (Packet original b) own room within = h
part-kept vid needs S T h (Asks c) own room within = changed-own vid needs S T h c (refused-own vid needs S T h c (own-about vid needs c own) (own-needed vid needs c own) within room)

pub part-left : (vid : ℕ) (needs : Needs) (S : Settings) (i : Input) → names_or_concerns vid needs S i ≡ false → part_of vid needs (settings_after_input S i) ≡ part_of vid needs S
part-left vid needs S (FrameAt port original b) other = refl
part-left vid needs S (Packet original b) other = refl
part-left vid needs S (Asks c) other = changed-other vid needs S c other

-- ---- whole lists

-- a change that needs room isn't one of a port
pub room-needed : (needs : Needs) (e : Effect) → takes_room e ≡ true → is_needed needs e ≡ true
room-needed needs (ToLimit v limit) takes = refl
room-needed needs (Comes new) takes = refl
room-needed needs (ToFlood v change) takes = absurd (false≢true takes)
room-needed needs (ToBridge v change) takes = absurd (false≢true takes)
room-needed needs (ToMembers v port egress) takes = absurd (false≢true takes)
room-needed needs (ToPort port up) takes = absurd (false≢true takes)
room-needed needs (Goes v) takes = absurd (false≢true takes)
room-needed needs ToNothing takes = absurd (false≢true takes)

pub own-asked : (vid : ℕ) (needs : Needs) (c : Change) → asks_room vid c ≡ true → is_own_change vid needs c ≡ true
own-asked vid needs c asks = by (takes_room (effect c)) (is_about vid c) refl asks
  where
    by : (a b : Bool) → takes_room (effect c) ≡ a → a && b ≡ true → b && is_needed needs (effect c) ≡ true
    by true true takes h = room-needed needs (effect c) takes
    by true false takes h = absurd (false≢true h)
    by false b takes h = absurd (false≢true h)

pub about-asked : (a b : Bool) → a && b ≡ true → b ≡ true
about-asked true b is = is
about-asked false b is = absurd (false≢true is)

module _ (vid : ℕ) (needs : Needs) where
  -- an event to both adds the same answer
  reply-calm : (S T : Settings) → part_of vid needs S ≡ part_of vid needs T → (i : Input) → is_within needs S i ≡ true → lacks_room vid S i ≡ false → lacks_room vid T i ≡ false → AreRoomAlike vid S T i × (room_reply vid S i ≡ room_reply vid T i)
  reply-calm S T h (FrameAt port original b) within calm quiet = (tt, refl)
  reply-calm S T h (Packet original b) within calm quiet = (tt, refl)
  reply-calm S T h (Asks c) within calm quiet = by (asks_room vid c) (own-asked vid needs c)
    where
      by : (b : Bool) → (b ≡ true → is_own_change vid needs c ≡ true) → (b ≡ true → refused S c ≡ refused T c) × (cond b (refused S c ∷ []) [] ≡ cond b (refused T c ∷ []) [])
      by true own = let same : refused S c ≡ refused T c = refused-calm vid needs S T c h (own refl) within calm quiet in (λ is. same, ap (λ why. why ∷ []) same)
      by false own = (λ is. absurd (false≢true is), refl)

  abbrev rest_of : Settings → Event → List Event → List Event
  rest_of S e es = own_events vid needs (settings_after_input S e.input) es

  abbrev replies_behind : Settings → Event → List Event → List (Option ChangeFault)
  replies_behind S e es = room_replies vid (settings_after_input S e.input) es

  -- an event that isn't its own adds none
  passed-by : (S : Settings) (e : Event) (es : List Event) → names_or_concerns vid needs S e.input ≡ false → room_replies vid S (e ∷ es) ≡ replies_behind S e es
  passed-by S e es other = ap (λ l. l ++ replies_behind S e es) (room-none vid needs S e.input other)

  none-own : (S : Settings) (es : List Event) → own_events vid needs S es ≡ [] → room_replies vid S es ≡ []
  none-own S [] none = refl
  none-own S (e ∷ es) none = by (none-own (settings_after_input S e.input) es) (names_or_concerns vid needs S e.input) refl none
    where
      by : (rest_of S e es ≡ [] → replies_behind S e es ≡ []) → (b : Bool) → names_or_concerns vid needs S e.input ≡ b → cond b (e ∷ rest_of S e es) (rest_of S e es) ≡ [] → room_replies vid S (e ∷ es) ≡ []
      by next true is empty = absurd (never-empty e (rest_of S e es) empty)
      by next false is empty = passed-by S e es is ∙ next empty

  abbrev Onward : Settings → List Event → Type 0
  Onward S es =
      (T : Settings) (fs : List Event) → part_of vid needs S ≡ part_of vid needs T → own_events vid needs S es ≡ own_events vid needs T fs
      → HasRoom vid S es → HasRoom vid T fs → room_replies vid S es ≡ room_replies vid T fs

  -- both take an event of the segment's own
  both-take : (e : Event) (es : List Event) (S : Settings) → names_or_concerns vid needs S e.input ≡ true → is_within needs S e.input ≡ true → Onward (settings_after_input S e.input) es
      → (T : Settings) (fs : List Event) → part_of vid needs S ≡ part_of vid needs T → rest_of S e es ≡ rest_of T e fs
      → HasRoom vid S (e ∷ es) → HasRoom vid T (e ∷ fs) → room_replies vid S (e ∷ es) ≡ room_replies vid T (e ∷ fs)
  both-take e es S own within next T fs h same calm quiet =
      let first = reply-calm S T h e.input within calm.0 quiet.0 in
      let rest = next (settings_after_input T e.input) fs (part-kept vid needs S T h e.input own first.0 within) same calm.1 quiet.1 in
      λ i. first.1 i ++ rest i

  -- the other comes to it behind events that aren't
  then-take : (e : Event) (es : List Event) (S : Settings) → names_or_concerns vid needs S e.input ≡ true → is_within needs S e.input ≡ true → Onward (settings_after_input S e.input) es
      → (T : Settings) (fs : List Event) → part_of vid needs S ≡ part_of vid needs T → e ∷ rest_of S e es ≡ own_events vid needs T fs
      → HasRoom vid S (e ∷ es) → HasRoom vid T fs → room_replies vid S (e ∷ es) ≡ room_replies vid T fs
  then-take e es S own within next T [] h same calm quiet = absurd (never-empty e (rest_of S e es) same)
  then-take e es S own within next T (f ∷ fs) h same calm quiet =
      by (λ other same quiet. then-take e es S own within next (settings_after_input T f.input) fs (h ∙ sym (part-left vid needs T f.input other)) same calm quiet) (names_or_concerns vid needs T f.input) refl same
    where
      by : (names_or_concerns vid needs T f.input ≡ false → e ∷ rest_of S e es ≡ rest_of T f fs → HasRoom vid (settings_after_input T f.input) fs → room_replies vid S (e ∷ es) ≡ replies_behind T f fs)
          → (b : Bool) → names_or_concerns vid needs T f.input ≡ b → e ∷ rest_of S e es ≡ cond b (f ∷ rest_of T f fs) (rest_of T f fs) → room_replies vid S (e ∷ es) ≡ room_replies vid T (f ∷ fs)
      by skipped true is both =
          subst (λ (g : Event). rest_of S e es ≡ rest_of T g fs → HasRoom vid T (g ∷ fs) → room_replies vid S (e ∷ es) ≡ room_replies vid T (g ∷ fs))
          (same-head e f (rest_of S e es) (rest_of T f fs) both)
          (λ same quiet. both-take e es S own within next T fs h same calm quiet)
          (same-tail e f (rest_of S e es) (rest_of T f fs) both) quiet
      by skipped false is both = skipped is both quiet.1 ∙ sym (passed-by T f fs is)

  onward-calm : (S : Settings) (es : List Event) → AreWithin vid needs S es → Onward S es
  onward-calm S [] within T fs h same calm quiet = sym (none-own T fs (sym same))
  onward-calm S (e ∷ es) within T fs h same calm quiet = by (onward-calm (settings_after_input S e.input) es within.1) (names_or_concerns vid needs S e.input) refl same
    where
      by : Onward (settings_after_input S e.input) es → (b : Bool) → names_or_concerns vid needs S e.input ≡ b → cond b (e ∷ rest_of S e es) (rest_of S e es) ≡ own_events vid needs T fs → room_replies vid S (e ∷ es) ≡ room_replies vid T fs
      by next true is both = then-take e es S is (within.0 is) next T fs h both calm quiet
      by next false is both = passed-by S e es is ∙ next T fs (part-left vid needs S e.input is ∙ h) both calm.1 quiet

  -- where no change of the segment's own is refused for want of room, they are answered alike
  pub replies-calm : (S T : Settings) (es fs : List Event) → AreWithin vid needs S es → part_of vid needs S ≡ part_of vid needs T → own_events vid needs S es ≡ own_events vid needs T fs
      → HasRoom vid S es → HasRoom vid T fs
      → room_replies vid S es ≡ room_replies vid T fs
  replies-calm S T es fs within h same calm quiet = onward-calm S es within T fs h same calm quiet
