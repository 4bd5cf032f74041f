-- Two runs that agree in a segment's own events, as far as the one goes.
use Rattle.std.proofs.Common.{◌≡◌, ℕ, ◌≤◌, Bool, true, false, cond, ◌&&◌, List, [], ◌∷◌, ◌++◌, map, Option, refl, sym, ap, ◌∙◌, subst, le_trans, le_refl, append_assoc, append-nil}
use Rattle.std.specs.List.{AllByRecursion}
use Rattle.std.proofs.lemmas.Bool.{false≢true}
use Rattle.endpoint_core.specs.declared.state.fault.ChangeFault.{ChangeFault}
use Rattle.endpoint_core.specs.Settings.{Settings}
use Rattle.endpoint_core.specs.Effect.{Effect, ToFlood, ToBridge, ToLimit, ToMembers, ToPort, Comes, Goes, ToNothing, effect}
use Rattle.endpoint_core.specs.Change.{is_about, refused}
use Rattle.endpoint_core.specs.State.{aged}
use Rattle.endpoint_core.specs.Event.{Input, FrameAt, Packet, Asks, Event, IsRising}
use Rattle.endpoint_core.specs.Run.{settings_after_input}
use Rattle.endpoint_core.specs.Step.{State, answer, bridges_after, after}
use Rattle.endpoint_core.proofs.Runs.{live_in-live_in, settings-event}
use Rattle.noninterference.specs.Leaving.{Row}
use Rattle.tenants_apart.specs.Own.{Needs, is_needed, names_or_concerns, own_events, takes_room, asks_room, room_reply, room_replies, own_rows, is_within, AreWithin, IsReached}
use Rattle.tenants_apart.proofs.Kept.{Own, owned, aged_own, Kept, kept-aged}
use Rattle.tenants_apart.proofs.Stepping.{AreRoomAlike, answer-same, after-same, after-other, after-kept}

-- ---- lists

pub same-head : {A : Type 0} (x y : A) (xs ys : List A) → x ∷ xs ≡ y ∷ ys → x ≡ y
same-head x y xs ys same = cc

pub same-tail : {A : Type 0} (x y : A) (xs ys : List A) → x ∷ xs ≡ y ∷ ys → xs ≡ ys
same-tail x y xs ys same = cc

pub never-empty : {A : Type 0} (x : A) (xs : List A) → x ∷ xs ≡ [] → ⊥
never-empty x xs same = cc

-- ---- ageing

-- what is dead may be forgotten early
aged_own-twice : (t u : ℕ) (w : Own) → t ≤ u → aged_own u (aged_own t w) ≡ aged_own u w
aged_own-twice t u w h = ap (λ m. let left : Own = record { settings = w.settings; table = m } in left) (live_in-live_in w.settings.bridge t u w.table h)

-- ---- the settings in force

pub settings-after : (s : State) (e : Event) → (after s e).bridges.settings ≡ settings_after_input s.bridges.settings e.input
settings-after s e = settings-event e.at (aged e.at s.bridges) e.input

-- ---- the segment's own events, told along states

abbrev pub row_of : State → Event → Row
row_of s e = record { event = e; reply = answer s e }

module _ (vid : ℕ) (needs : Needs) where
  abbrev pub is_own : State → Event → Bool
  is_own s e = names_or_concerns vid needs s.bridges.settings e.input

  abbrev pub own_from : State → List Event → List Event
  own_from s [] = []
  own_from s (e ∷ es) = cond (is_own s e) (e ∷ own_from (after s e) es) (own_from (after s e) es)

  abbrev pub replies_from : State → List Event → List (Option ChangeFault)
  replies_from s [] = []
  replies_from s (e ∷ es) = room_reply vid s.bridges.settings e.input ++ replies_from (after s e) es

  pub own_from-is : (s : State) (es : List Event) → own_from s es ≡ own_events vid needs s.bridges.settings es
  own_from-is s [] = refl
  own_from-is s (e ∷ es) =
      let rest : own_from (after s e) es ≡ own_events vid needs (settings_after_input s.bridges.settings e.input) es = own_from-is (after s e) es ∙ ap (λ (S : Settings). own_events vid needs S es) (settings-after s e) in
      λ i. cond (is_own s e) (e ∷ rest i) (rest i)

  pub replies_from-is : (s : State) (es : List Event) → replies_from s es ≡ room_replies vid s.bridges.settings es
  replies_from-is s [] = refl
  replies_from-is s (e ∷ es) =
      ap (λ l. room_reply vid s.bridges.settings e.input ++ l) (replies_from-is (after s e) es ∙ ap (λ (S : Settings). room_replies vid S es) (settings-after s e))

  pub rows-events : (s : State) (es : List Event) → map (λ row. row.event) (own_rows vid needs s es) ≡ own_from s es
  rows-events s [] = refl
  rows-events s (e ∷ es) = by (is_own s e) (rows-events (after s e) es)
    where
      by : (b : Bool) → map (λ row. row.event) (own_rows vid needs (after s e) es) ≡ own_from (after s e) es
          → map (λ row. row.event) (cond b (row_of s e ∷ own_rows vid needs (after s e) es) (own_rows vid needs (after s e) es)) ≡ cond b (e ∷ own_from (after s e) es) (own_from (after s e) es)
      by true rest = ap (λ l. e ∷ l) rest
      by false rest = rest

  -- ---- changes that need room

  none-asked : (e : Effect) (a : Bool) → a && is_needed needs e ≡ false → takes_room e && a ≡ false
  none-asked (ToLimit v limit) true other = other
  none-asked (ToLimit v limit) false other = refl
  none-asked (Comes new) true other = other
  none-asked (Comes new) false other = refl
  none-asked (ToFlood v change) a other = refl
  none-asked (ToBridge v change) a other = refl
  none-asked (ToMembers v port egress) a other = refl
  none-asked (ToPort port up) a other = refl
  none-asked (Goes v) a other = refl
  none-asked ToNothing a other = refl

  pub room-none : (S : Settings) (i : Input) → names_or_concerns vid needs S i ≡ false → room_reply vid S i ≡ []
  room-none S (FrameAt port original b) other = refl
  room-none S (Packet original b) other = refl
  room-none S (Asks c) other = ap (λ (b : Bool). cond b (refused S c ∷ []) []) (none-asked (effect c) (is_about vid c) other)

  pub room-split : (S T : Settings) (i : Input) (rs ts : List (Option ChangeFault)) → room_reply vid S i ++ rs ≡ room_reply vid T i ++ ts → AreRoomAlike vid S T i × (rs ≡ ts)
  room-split S T (FrameAt port original b) rs ts same = (tt, same)
  room-split S T (Packet original b) rs ts same = (tt, same)
  room-split S T (Asks c) rs ts same = by (asks_room vid c) same
    where
      by : (b : Bool) → cond b (refused S c ∷ []) [] ++ rs ≡ cond b (refused T c ∷ []) [] ++ ts → (b ≡ true → refused S c ≡ refused T c) × (rs ≡ ts)
      by true both = (λ is. same-head (refused S c) (refused T c) rs ts both, same-tail (refused S c) (refused T c) rs ts both)
      by false both = (λ is. absurd (false≢true is), both)

  -- ---- what is needed

  -- the segment's own changes ask for no more, of the events that come to an endpoint in state s
  abbrev pub Within : State → List Event → Type 0
  Within s [] = Unit {0}
  Within s (e ∷ es) = (is_own s e ≡ true → is_within needs s.bridges.settings e.input ≡ true) × Within (after s e) es

  pub within-from : (s : State) (es : List Event) → AreWithin vid needs s.bridges.settings es → Within s es
  within-from s [] within = tt
  within-from s (e ∷ es) within = (within.0, within-from (after s e) es (subst (λ (S : Settings). AreWithin vid needs S es) (sym (settings-after s e)) within.1))

  abbrev pub Reached : List Row → Type 0
  Reached rs = AllByRecursion (λ row. IsReached needs row.reply) rs

  -- ---- the two states

  -- from the moments of both on they have the same of the segment
  pub record Related (s r : State) : Type 0 where
    pub same : (t : ℕ) → s.moment ≤ t → r.moment ≤ t → owned vid needs (aged t s.bridges) ≡ owned vid needs (aged t r.bridges)
    pub mine : Kept needs (owned vid needs s.bridges)
    pub theirs : Kept needs (owned vid needs r.bridges)

  Related-turned : (s r : State) → Related s r → Related r s
  Related-turned s r h = record { same = λ t later late. sym (h.same t late later); mine = h.theirs; theirs = h.mine }

  -- behind an event
  kept-own : (S : Settings) (s : State) (e : Event) → is_own s e ≡ true → is_within needs S e.input ≡ true → Kept needs (owned vid needs s.bridges) → Kept needs (owned vid needs (after s e).bridges)
  kept-own S s e own within k =
      kept-aged needs e.at (owned vid needs (bridges_after e.at (aged e.at s.bridges) e.input))
      (after-kept vid e.at needs S (aged e.at s.bridges) e.input own within (kept-aged needs e.at (owned vid needs s.bridges) k))

  left-other : (s : State) (e : Event) → is_own s e ≡ false → Kept needs (owned vid needs s.bridges) → owned vid needs (bridges_after e.at (aged e.at s.bridges) e.input) ≡ owned vid needs (aged e.at s.bridges)
  left-other s e other k = after-other vid e.at needs (aged e.at s.bridges) (kept-aged needs e.at (owned vid needs s.bridges) k) e.input other

  kept-other : (s : State) (e : Event) → is_own s e ≡ false → Kept needs (owned vid needs s.bridges) → Kept needs (owned vid needs (after s e).bridges)
  kept-other s e other k =
      kept-aged needs e.at (owned vid needs (bridges_after e.at (aged e.at s.bridges) e.input))
      (subst (Kept needs) (sym (left-other s e other k)) (kept-aged needs e.at (owned vid needs s.bridges) k))

  pub Related-kept : (s r : State) (e : Event) → s.moment ≤ e.at → r.moment ≤ e.at → Related s r → is_own s e ≡ true → is_own r e ≡ true → AreRoomAlike vid s.bridges.settings r.bridges.settings e.input → is_within needs s.bridges.settings e.input ≡ true → Related (after s e) (after r e)
  Related-kept s r e late later h own other room within = record {
    same = λ t from since. ap (λ (w : Own). aged_own t (aged_own e.at w))
        (after-same vid e.at needs (aged e.at s.bridges) (aged e.at r.bridges) (h.same e.at late later) (kept-aged needs e.at (owned vid needs s.bridges) h.mine) e.input own other room within);
    mine = kept-own s.bridges.settings s e own within h.mine;
    theirs = kept-own s.bridges.settings r e other within h.theirs;
  }

  pub answers-same : (s r : State) (e : Event) → s.moment ≤ e.at → r.moment ≤ e.at → Related s r → is_own s e ≡ true → is_own r e ≡ true → AreRoomAlike vid s.bridges.settings r.bridges.settings e.input
      → is_within needs s.bridges.settings e.input ≡ true → IsReached needs (answer s e) → answer s e ≡ answer r e
  answers-same s r e late later h own other room within reached =
      answer-same vid e.at needs (aged e.at s.bridges) (aged e.at r.bridges) (h.same e.at late later) (kept-aged needs e.at (owned vid needs s.bridges) h.mine) e.input own other room within reached

  pub Related-left : (s r : State) (e : Event) → s.moment ≤ e.at → Related s r → is_own s e ≡ false → Related (after s e) r
  Related-left s r e late h other = record {
    same = λ t from since. ap (λ (w : Own). aged_own t (aged_own e.at w)) (left-other s e other h.mine)
        ∙ ap (aged_own t) (aged_own-twice e.at e.at (owned vid needs s.bridges) (le_refl e.at))
        ∙ aged_own-twice e.at t (owned vid needs s.bridges) from
        ∙ h.same t (le_trans late from) since;
    mine = kept-other s e other h.mine;
    theirs = h.theirs;
  }

  pub Related-right : (s r : State) (e : Event) → r.moment ≤ e.at → Related s r → is_own r e ≡ false → Related s (after r e)
  Related-right s r e later h other = Related-turned (after r e) s (Related-left r s e later (Related-turned s r h) other)

  -- ---- whole runs

  -- the rows of the one go on with those of these events in the other
  pub record Further (rs ts : List Row) (rest : List Event) : Type 0 where
    pub others : List Row
    pub whole : rs ++ others ≡ ts
    pub told : map (λ row. row.event) others ≡ rest

  one-more : (x y : Row) (rs ts : List Row) (rest : List Event) → x ≡ y → Further rs ts rest → Further (x ∷ rs) (y ∷ ts) rest
  one-more x y rs ts rest same more = record { others = more.others; whole = λ i. same i ∷ more.whole i; told = more.told }

  abbrev Goal : State → List Event → State → List Event → Type 0
  Goal s es r fs =
      (rest : List Event) → own_from s es ++ rest ≡ own_from r fs
      → (more : List (Option ChangeFault)) → replies_from s es ++ more ≡ replies_from r fs
      → Further (own_rows vid needs s es) (own_rows vid needs r fs) rest

  abbrev Onward : State → List Event → Type 0
  Onward s es = (r : State) (fs : List Event) → IsRising r.moment fs → Related s r → Goal s es r fs

  -- both take an event of the segment's own
  taken : (e : Event) (es : List Event) (s : State) → s.moment ≤ e.at → is_own s e ≡ true → (is_within needs s.bridges.settings e.input ≡ true) × IsReached needs (answer s e) → Onward (after s e) es
      → (r : State) (fs : List Event) → r.moment ≤ e.at → IsRising e.at fs → Related s r → is_own r e ≡ true
      → (rest : List Event) → own_from (after s e) es ++ rest ≡ own_from (after r e) fs
      → (more : List (Option ChangeFault)) → (room_reply vid s.bridges.settings e.input ++ replies_from (after s e) es) ++ more ≡ room_reply vid r.bridges.settings e.input ++ replies_from (after r e) fs
      → Further (row_of s e ∷ own_rows vid needs (after s e) es) (row_of r e ∷ own_rows vid needs (after r e) fs) rest
  taken e es s late own fits next r fs later rising h other rest same more replies =
      let split = room-split s.bridges.settings r.bridges.settings e.input (replies_from (after s e) es ++ more) (replies_from (after r e) fs)
      (sym (append_assoc (room_reply vid s.bridges.settings e.input) (replies_from (after s e) es) more) ∙ replies) in
      one-more (row_of s e) (row_of r e) (own_rows vid needs (after s e) es) (own_rows vid needs (after r e) fs) rest
      (ap (λ a. let row : Row = record { event = e; reply = a } in row) (answers-same s r e late later h own other split.0 fits.0 fits.1))
      (next (after r e) fs rising (Related-kept s r e late later h own other split.0 fits.0) rest same more split.1)

  -- the other comes to it behind events that aren't the segment's own
  sought : (e : Event) (es : List Event) (s : State) → s.moment ≤ e.at → is_own s e ≡ true → (is_within needs s.bridges.settings e.input ≡ true) × IsReached needs (answer s e) → Onward (after s e) es
      → (r : State) (fs : List Event) → IsRising r.moment fs → Related s r
      → (rest : List Event) → e ∷ (own_from (after s e) es ++ rest) ≡ own_from r fs
      → (more : List (Option ChangeFault)) → (room_reply vid s.bridges.settings e.input ++ replies_from (after s e) es) ++ more ≡ replies_from r fs
      → Further (row_of s e ∷ own_rows vid needs (after s e) es) (own_rows vid needs r fs) rest
  sought e es s late own fits next r [] rising h rest same more replies = absurd (never-empty e (own_from (after s e) es ++ rest) same)
  sought e es s late own fits next r (f ∷ fs) rising h rest same more replies =
      by (λ other same replies. sought e es s late own fits next (after r f) fs rising.1 (Related-right s r f rising.0 h other) rest same more replies) (is_own r f) refl same
    where
      by : (is_own r f ≡ false → e ∷ (own_from (after s e) es ++ rest) ≡ own_from (after r f) fs → (room_reply vid s.bridges.settings e.input ++ replies_from (after s e) es) ++ more ≡ replies_from (after r f) fs → Further (row_of s e ∷ own_rows vid needs (after s e) es) (own_rows vid needs (after r f) fs) rest)
          → (b : Bool) → is_own r f ≡ b → e ∷ (own_from (after s e) es ++ rest) ≡ cond b (f ∷ own_from (after r f) fs) (own_from (after r f) fs)
          → Further (row_of s e ∷ own_rows vid needs (after s e) es) (cond b (row_of r f ∷ own_rows vid needs (after r f) fs) (own_rows vid needs (after r f) fs)) rest
      by skipped true is both =
          subst (λ (g : Event). r.moment ≤ g.at → IsRising g.at fs → is_own r g ≡ true → own_from (after s e) es ++ rest ≡ own_from (after r g) fs → (room_reply vid s.bridges.settings e.input ++ replies_from (after s e) es) ++ more ≡ room_reply vid r.bridges.settings g.input ++ replies_from (after r g) fs
          → Further (row_of s e ∷ own_rows vid needs (after s e) es) (row_of r g ∷ own_rows vid needs (after r g) fs) rest)
          (same-head e f (own_from (after s e) es ++ rest) (own_from (after r f) fs) both)
          (λ later rising other same replies. taken e es s late own fits next r fs later rising h other rest same more replies)
          rising.0 rising.1 is (same-tail e f (own_from (after s e) es ++ rest) (own_from (after r f) fs) both) replies
      by skipped false is both = skipped is both (replies ∙ ap (λ l. l ++ replies_from (after r f) fs) (room-none r.bridges.settings f.input is))

  pub onward : (s : State) (es : List Event) → IsRising s.moment es → Within s es → Reached (own_rows vid needs s es) → Onward s es
  onward s [] up within reached r fs rising h rest same more replies = record { others = own_rows vid needs r fs; whole = refl; told = rows-events r fs ∙ sym same }
  onward s (e ∷ es) up within reached r fs rising h rest same more replies = by (onward (after s e) es up.1 within.1) (is_own s e) refl reached same
    where
      by : (Reached (own_rows vid needs (after s e) es) → Onward (after s e) es) → (b : Bool) → is_own s e ≡ b
          → Reached (cond b (row_of s e ∷ own_rows vid needs (after s e) es) (own_rows vid needs (after s e) es))
          → cond b (e ∷ own_from (after s e) es) (own_from (after s e) es) ++ rest ≡ own_from r fs
          → Further (cond b (row_of s e ∷ own_rows vid needs (after s e) es) (own_rows vid needs (after s e) es)) (own_rows vid needs r fs) rest
      by next true is all both = sought e es s up.0 is (within.0 is, all.0) (next all.1) r fs rising h rest both more replies
      by next false is all both =
          next all r fs rising (Related-left s r e up.0 h is) rest both more
          (ap (λ l. (l ++ replies_from (after s e) es) ++ more) (sym (room-none s.bridges.settings e.input is)) ∙ replies)

  -- where nothing is left, the rows are the same
  none-left : (rs ts : List Row) → Further rs ts [] → rs ≡ ts
  none-left rs ts more = by more.others more.told more.whole
    where
      by : (l : List Row) → map (λ row. row.event) l ≡ [] → rs ++ l ≡ ts → rs ≡ ts
      by [] none whole = sym (append-nil rs) ∙ whole
      by (x ∷ l) none whole = absurd (never-empty x.event (map (λ row. row.event) l) none)

  pub rows-same : (s r : State) (es fs : List Event) → IsRising s.moment es → IsRising r.moment fs → Within s es → Reached (own_rows vid needs s es) → Related s r → own_from s es ≡ own_from r fs → replies_from s es ≡ replies_from r fs → own_rows vid needs s es ≡ own_rows vid needs r fs
  rows-same s r es fs up rising within reached h same replies =
      none-left (own_rows vid needs s es) (own_rows vid needs r fs)
      (onward s es up within reached r fs rising h [] (append-nil (own_from s es) ∙ same) [] (append-nil (replies_from s es) ∙ replies))
