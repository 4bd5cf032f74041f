-- Two runs as far as they answer a segment alike.
use Rattle.std.proofs.Common.{◌≡◌, ◌∙◌, refl, sym, ap, subst, ℕ, ◌≤◌, ◌==◌, Bool, true, false, cond, ◌||◌, ◌&&◌, ◌+◌, List, [], ◌∷◌, ◌++◌, map, Option, Some, None, inl, inr}
use Rattle.std.specs.Prelude.{◌⊎◌, ◌≢◌, if◌then◌else◌}
use Rattle.std.proofs.lemmas.Bool.{false≢true, eqb-true, eq-eqb}
use Rattle.pcap.specs.Record.{Record}
use Rattle.timeline.specs.Timeline.{Timeline}
use Rattle.timeline.specs.declared.source.Source.{Source}
use Rattle.timeline.specs.declared.source.Tap.{Tap}
use Rattle.overlay.specs.Settings.{Settings as Told}
use Rattle.overlay.specs.declared.settings.change.Change.{Change}
use Rattle.endpoint_core.specs.declared.state.fault.ChangeFault.{ChangeFault}
use Rattle.endpoint_core.specs.declared.state.fault.ChangeFault.TheVariants.{NoSegment, NoPort, AlreadyThere, NotThere, FloodFull, TableFull, GroupAddress, OutOfRange, NoFamily, OwnAddress, SegmentThere, PoolFull, SegmentsFull, NoTunnel}
use Rattle.endpoint_core.specs.Effect.{effect}
use Rattle.endpoint_core.specs.Change.{is_about, refused}
use Rattle.endpoint_core.specs.Fault.{number_of}
use Rattle.endpoint_core.specs.Settings.{Settings}
use Rattle.endpoint_core.specs.Run.{settings_after_input}
use Rattle.endpoint_core.specs.State.{aged, fault}
use Rattle.endpoint_core.specs.Event.{Input, FrameAt, Packet, Asks, Event, IsRising, change_at}
use Rattle.endpoint_core.specs.Step.{State, Answer, Decided, Replied, opened, answer, after}
use Rattle.endpoint_core.specs.Opened.{settings_told}
use Rattle.capture_run.specs.Outputs.{Outputs}
use Rattle.noninterference.specs.Coming.{Inputs, IsRunOf, coming}
use Rattle.noninterference.specs.Leaving.{Row, rows, departures, departures_in, lines_in, records_in}
use Rattle.tenants_apart.specs.Own.{Needs, part_of, own_events, is_needed, is_own_change, takes_room, asks_room, lacks_room, own_rows, is_within, IsReached, IsEnough}
use Rattle.noninterference.proofs.Turns.{same_by_source}
use Rattle.tenants_apart.specs.Texts.{TellAlike, own_coming}
use Rattle.tenants_apart.proofs.Told.{part-told}
use Rattle.tenants_apart.specs.Until.{IsUpTo, IsParting, PartAt, AgreeUntil}
use Rattle.tenants_apart.proofs.Captures.{records_of, records-append, records_by, rises, turns}
use Rattle.tenants_apart.proofs.Earlier.{fault-refused}
use Rattle.tenants_apart.proofs.Events.{Related-opened}
use Rattle.tenants_apart.proofs.Room.{about-asked, room-needed, refused-calm}
use Rattle.tenants_apart.proofs.Running.{row_of, settings-after, is_own, own_from, own_from-is, rows-events, Related, Related-kept, Related-left, Related-right, answers-same, Within, within-from, Reached, same-head, same-tail, never-empty}
use Rattle.tenants_apart.proofs.Kept.{Own}
use Rattle.tenants_apart.proofs.Stepping.{AreRoomAlike}
use Rattle.tenants_apart.proofs.Telling.{Reads, reads-departures, reads-lines}

-- ---- two answers are the same, or they aren't

code : Option ChangeFault → ℕ
code None = 0
code (Some why) = number_of why

abbrev among : ℕ → ℕ → List (Option ChangeFault) → Option ChangeFault
among n k [] = None
among n k (o ∷ os) = if n == k then o else among n (k + 1) os

decoded : ℕ → Option ChangeFault
decoded n =
    among n 0
    (None
    ∷ Some NoSegment
    ∷ Some NoPort
    ∷ Some AlreadyThere
    ∷ Some NotThere
    ∷ Some FloodFull
    ∷ Some TableFull
    ∷ Some GroupAddress
    ∷ Some OutOfRange
    ∷ Some NoFamily
    ∷ Some OwnAddress
    ∷ Some SegmentThere
    ∷ Some PoolFull
    ∷ Some SegmentsFull
    ∷ Some NoTunnel
    ∷ [])

decoded-code : (o : Option ChangeFault) → decoded (code o) ≡ o
unfolding decoded code
decoded-code None = refl
decoded-code (Some NoSegment) = refl
decoded-code (Some NoPort) = refl
decoded-code (Some AlreadyThere) = refl
decoded-code (Some NotThere) = refl
decoded-code (Some FloodFull) = refl
decoded-code (Some TableFull) = refl
decoded-code (Some GroupAddress) = refl
decoded-code (Some OutOfRange) = refl
decoded-code (Some NoFamily) = refl
decoded-code (Some OwnAddress) = refl
decoded-code (Some SegmentThere) = refl
decoded-code (Some PoolFull) = refl
decoded-code (Some SegmentsFull) = refl
decoded-code (Some NoTunnel) = refl

same-or-not : (o p : Option ChangeFault) → (o ≡ p) ⊎ (o ≢ p)
same-or-not o p = by (code o == code p) refl
  where
    by : (b : Bool) → (code o == code p) ≡ b → (o ≡ p) ⊎ (o ≢ p)
    by true is = inl (sym (decoded-code o) ∙ ap decoded (eqb-true (code o) (code p) is) ∙ decoded-code p)
    by false is = inr (λ same. false≢true (sym is ∙ eq-eqb (code o) (code p) (ap code same)))

-- a change that needs room is answered otherwise
abbrev Otherwise : ℕ → Settings → Settings → Input → Type 0
Otherwise vid S T (FrameAt port original b) = ⊥
Otherwise vid S T (Packet original b) = ⊥
Otherwise vid S T (Asks c) = (asks_room vid c ≡ true) × (refused S c ≢ refused T c)

alike-or-not : (vid : ℕ) (S T : Settings) (i : Input) → AreRoomAlike vid S T i ⊎ Otherwise vid S T i
alike-or-not vid S T (FrameAt port original b) = inl tt
alike-or-not vid S T (Packet original b) = inl tt
alike-or-not vid S T (Asks c) = by (asks_room vid c) (same-or-not (refused S c) (refused T c))
  where
    by : (b : Bool) → (refused S c ≡ refused T c) ⊎ (refused S c ≢ refused T c) → (b ≡ true → refused S c ≡ refused T c) ⊎ ((b ≡ true) × (refused S c ≢ refused T c))
    by b (inl same) = inl (λ is. same)
    by true (inr other) = inr (refl, other)
    by false (inr other) = inl (λ is. absurd (false≢true is))

-- where neither wants room they would be the same
one-wants : (a b : Bool) → (a ≡ false → b ≡ false → ⊥) → a || b ≡ true
one-wants true b h = refl
one-wants false true h = refl
one-wants false false h = absurd (h refl refl)

-- ---- two runs

-- rows of two runs are the same up to where they part
record Until (vid : ℕ) (S T : Settings) (es fs : List Event) (rs ts : List Row) : Type 0 where
  pub alike : List Row
  pub mine : List Row
  pub theirs : List Row
  pub mine_is : alike ++ mine ≡ rs
  pub theirs_is : alike ++ theirs ≡ ts
  pub parted : PartAt vid S T es fs mine theirs

one-more : (vid : ℕ) (S T : Settings) (es fs : List Event) (x y : Row) (rs ts : List Row) → x ≡ y → Until vid S T es fs rs ts → Until vid S T es fs (x ∷ rs) (y ∷ ts)
one-more vid S T es fs x y rs ts same more = record {
  alike = x ∷ more.alike;
  mine = more.mine;
  theirs = more.theirs;
  mine_is = ap (λ l. x ∷ l) more.mine_is;
  theirs_is = λ i. same i ∷ more.theirs_is i;
  parted = more.parted;
}

-- behind one event more
abbrev further_on : (S : Settings) (e : Event) (es : List Event) (moment : ℕ) (change : Change) (row : Row) → IsUpTo (settings_after_input S e.input) es moment change row → IsUpTo S (e ∷ es) moment change row
further_on S e es moment change row p = record { before = e ∷ p.before; behind = p.behind; events = ap (λ l. e ∷ l) p.events; answer = p.answer }

part-left : (vid : ℕ) (S T : Settings) (e : Event) (es fs : List Event) (rs ts : List Row) → PartAt vid (settings_after_input S e.input) T es fs rs ts → PartAt vid S T (e ∷ es) fs rs ts
part-left vid S T e es fs [] [] p = tt
part-left vid S T e es fs [] (y ∷ ts) p = absurd p
part-left vid S T e es fs (x ∷ rs) [] p = absurd p
part-left vid S T e es fs (x ∷ rs) (y ∷ ts) p = record {
  moment = p.moment;
  change = p.change;
  mine = further_on S e es p.moment p.change x p.mine;
  theirs = p.theirs;
  otherwise = p.otherwise;
  lacking = p.lacking;
}

part-right : (vid : ℕ) (S T : Settings) (es : List Event) (f : Event) (fs : List Event) (rs ts : List Row) → PartAt vid S (settings_after_input T f.input) es fs rs ts → PartAt vid S T es (f ∷ fs) rs ts
part-right vid S T es f fs [] [] p = tt
part-right vid S T es f fs [] (y ∷ ts) p = absurd p
part-right vid S T es f fs (x ∷ rs) [] p = absurd p
part-right vid S T es f fs (x ∷ rs) (y ∷ ts) p = record {
  moment = p.moment;
  change = p.change;
  mine = p.mine;
  theirs = further_on T f fs p.moment p.change y p.theirs;
  otherwise = p.otherwise;
  lacking = p.lacking;
}

-- the same of states
until-left : (vid : ℕ) (s : State) (T : Settings) (e : Event) (es fs : List Event) (rs ts : List Row) → Until vid (after s e).bridges.settings T es fs rs ts → Until vid s.bridges.settings T (e ∷ es) fs rs ts
until-left vid s T e es fs rs ts u = record {
  alike = u.alike;
  mine = u.mine;
  theirs = u.theirs;
  mine_is = u.mine_is;
  theirs_is = u.theirs_is;
  parted = part-left vid s.bridges.settings T e es fs u.mine u.theirs (subst (λ (S : Settings). PartAt vid S T es fs u.mine u.theirs) (settings-after s e) u.parted);
}

until-right : (vid : ℕ) (S : Settings) (r : State) (es : List Event) (f : Event) (fs : List Event) (rs ts : List Row) → Until vid S (after r f).bridges.settings es fs rs ts → Until vid S r.bridges.settings es (f ∷ fs) rs ts
until-right vid S r es f fs rs ts u = record {
  alike = u.alike;
  mine = u.mine;
  theirs = u.theirs;
  mine_is = u.mine_is;
  theirs_is = u.theirs_is;
  parted = part-right vid S r.bridges.settings es f fs u.mine u.theirs (subst (λ (T : Settings). PartAt vid S T es fs u.mine u.theirs) (settings-after r f) u.parted);
}

reply-apart : (x y : Option ChangeFault) → x ≢ y → (let a : Answer = Replied x in let b : Answer = Replied y in a ≢ b)
reply-apart x y apart same = apart (ap fault_in same)
  where
    fault_in : Answer → Option ChangeFault
    fault_in (Replied fault) = fault
    fault_in (Decided decision) = None

module _ (vid : ℕ) (needs : Needs) where
  parting : (s r : State) (at : ℕ) (i : Input) (es fs : List Event) → part_of vid needs s.bridges.settings ≡ part_of vid needs r.bridges.settings → is_within needs s.bridges.settings i ≡ true
      → Otherwise vid s.bridges.settings r.bridges.settings i
      → (let e : Event = record { at = at; input = i } in IsParting vid s.bridges.settings r.bridges.settings (e ∷ es) (e ∷ fs) (row_of s e) (row_of r e))
  parting s r at (FrameAt port original b) es fs h within other = absurd other
  parting s r at (Packet original b) es fs h within other = absurd other
  parting s r at (Asks c) es fs h within other =
      let takes : takes_room (effect c) ≡ true = taking (takes_room (effect c)) (is_about vid c) other.0 in
      let about : is_about vid c ≡ true = about-asked (takes_room (effect c)) (is_about vid c) other.0 in
      let mine : fault (aged at s.bridges) c ≡ refused s.bridges.settings c = fault-refused vid needs (aged at s.bridges) c takes in
      let theirs : fault (aged at r.bridges) c ≡ refused r.bridges.settings c = fault-refused vid needs (aged at r.bridges) c takes in
      record {
        moment = at;
        change = c;
        mine = record { before = []; behind = es; events = refl; answer = ap (λ o. let row : Row = record { event = change_at at c; reply = Replied o } in row) mine };
        theirs = record { before = []; behind = fs; events = refl; answer = ap (λ o. let row : Row = record { event = change_at at c; reply = Replied o } in row) theirs };
        otherwise = reply-apart (fault (aged at s.bridges) c) (fault (aged at r.bridges) c) (λ same. other.1 (sym mine ∙ same ∙ theirs));
        lacking = one-wants (lacks_room vid s.bridges.settings (Asks c)) (lacks_room vid r.bridges.settings (Asks c))
            (λ calm quiet. other.1 (refused-calm vid needs s.bridges.settings r.bridges.settings c h (own-change c takes about) within calm quiet));
      }
    where
      taking : (a b : Bool) → a && b ≡ true → a ≡ true
      taking true b is = refl
      taking false b is = is

      own-change : (c : Change) → takes_room (effect c) ≡ true → is_about vid c ≡ true → is_own_change vid needs c ≡ true
      own-change c takes about = ap (λ (a : Bool). a && is_needed needs (effect c)) about ∙ room-needed needs (effect c) takes

  no_rows : (s : State) (es : List Event) → own_from vid needs s es ≡ [] → own_rows vid needs s es ≡ []
  no_rows s es none = by (own_rows vid needs s es) (rows-events vid needs s es ∙ none)
    where
      by : (l : List Row) → map (λ row. row.event) l ≡ [] → l ≡ []
      by [] is = refl
      by (x ∷ l) is = absurd (never-empty x.event (map (λ row. row.event) l) is)

  abbrev Onward : State → List Event → Type 0
  Onward s es =
      (r : State) (fs : List Event) → IsRising r.moment fs → Related vid needs s r → own_from vid needs s es ≡ own_from vid needs r fs
      → Until vid s.bridges.settings r.bridges.settings es fs (own_rows vid needs s es) (own_rows vid needs r fs)

  taken : (e : Event) (es : List Event) (s : State) → s.moment ≤ e.at → is_own vid needs s e ≡ true → (is_within needs s.bridges.settings e.input ≡ true) × IsReached needs (answer s e) → Onward (after s e) es
      → (r : State) (fs : List Event) → r.moment ≤ e.at → IsRising e.at fs → Related vid needs s r → is_own vid needs r e ≡ true → own_from vid needs (after s e) es ≡ own_from vid needs (after r e) fs
      → Until vid s.bridges.settings r.bridges.settings (e ∷ es) (e ∷ fs) (row_of s e ∷ own_rows vid needs (after s e) es) (row_of r e ∷ own_rows vid needs (after r e) fs)
  taken e es s late own fits next r fs later rising h other same = by (alike-or-not vid s.bridges.settings r.bridges.settings e.input)
    where
      by : AreRoomAlike vid s.bridges.settings r.bridges.settings e.input ⊎ Otherwise vid s.bridges.settings r.bridges.settings e.input
          → Until vid s.bridges.settings r.bridges.settings (e ∷ es) (e ∷ fs) (row_of s e ∷ own_rows vid needs (after s e) es) (row_of r e ∷ own_rows vid needs (after r e) fs)
      by (inl room) =
          one-more vid s.bridges.settings r.bridges.settings (e ∷ es) (e ∷ fs) (row_of s e) (row_of r e) (own_rows vid needs (after s e) es) (own_rows vid needs (after r e) fs)
          (ap (λ a. let row : Row = record { event = e; reply = a } in row) (answers-same vid needs s r e late later h own other room fits.0 fits.1))
          (until-left vid s r.bridges.settings e es (e ∷ fs) (own_rows vid needs (after s e) es) (own_rows vid needs (after r e) fs)
          (until-right vid (after s e).bridges.settings r es e fs (own_rows vid needs (after s e) es) (own_rows vid needs (after r e) fs)
          (next (after r e) fs rising (Related-kept vid needs s r e late later h own other room fits.0) same)))
      by (inr apart) = record {
        alike = [];
        mine = row_of s e ∷ own_rows vid needs (after s e) es;
        theirs = row_of r e ∷ own_rows vid needs (after r e) fs;
        mine_is = refl;
        theirs_is = refl;
        parted = parting s r e.at e.input es fs (ap (λ (w : Own). w.settings) (h.same e.at late later)) fits.0 apart;
      }

  sought : (e : Event) (es : List Event) (s : State) → s.moment ≤ e.at → is_own vid needs s e ≡ true → (is_within needs s.bridges.settings e.input ≡ true) × IsReached needs (answer s e) → Onward (after s e) es
      → (r : State) (fs : List Event) → IsRising r.moment fs → Related vid needs s r → e ∷ own_from vid needs (after s e) es ≡ own_from vid needs r fs
      → Until vid s.bridges.settings r.bridges.settings (e ∷ es) fs (row_of s e ∷ own_rows vid needs (after s e) es) (own_rows vid needs r fs)
  sought e es s late own fits next r [] rising h same = absurd (never-empty e (own_from vid needs (after s e) es) same)
  sought e es s late own fits next r (f ∷ fs) rising h same =
      by (λ other same. until-right vid s.bridges.settings r (e ∷ es) f fs (row_of s e ∷ own_rows vid needs (after s e) es) (own_rows vid needs (after r f) fs)
      (sought e es s late own fits next (after r f) fs rising.1 (Related-right vid needs s r f rising.0 h other) same)) (is_own vid needs r f) refl same
    where
      by : (is_own vid needs r f ≡ false → e ∷ own_from vid needs (after s e) es ≡ own_from vid needs (after r f) fs
          → Until vid s.bridges.settings r.bridges.settings (e ∷ es) (f ∷ fs) (row_of s e ∷ own_rows vid needs (after s e) es) (own_rows vid needs (after r f) fs))
          → (b : Bool) → is_own vid needs r f ≡ b → e ∷ own_from vid needs (after s e) es ≡ cond b (f ∷ own_from vid needs (after r f) fs) (own_from vid needs (after r f) fs)
          → Until vid s.bridges.settings r.bridges.settings (e ∷ es) (f ∷ fs) (row_of s e ∷ own_rows vid needs (after s e) es) (cond b (row_of r f ∷ own_rows vid needs (after r f) fs) (own_rows vid needs (after r f) fs))
      by skipped true is both =
          subst (λ (g : Event). r.moment ≤ g.at → IsRising g.at fs → is_own vid needs r g ≡ true → own_from vid needs (after s e) es ≡ own_from vid needs (after r g) fs
          → Until vid s.bridges.settings r.bridges.settings (e ∷ es) (g ∷ fs) (row_of s e ∷ own_rows vid needs (after s e) es) (row_of r g ∷ own_rows vid needs (after r g) fs))
          (same-head e f (own_from vid needs (after s e) es) (own_from vid needs (after r f) fs) both)
          (λ later rising other same. taken e es s late own fits next r fs later rising h other same)
          rising.0 rising.1 is (same-tail e f (own_from vid needs (after s e) es) (own_from vid needs (after r f) fs) both)
      by skipped false is both = skipped is both

  until-from : (s : State) (es : List Event) → IsRising s.moment es → Within vid needs s es → Reached vid needs (own_rows vid needs s es) → Onward s es
  until-from s [] up within reached r fs rising h same =
      record { alike = []; mine = []; theirs = []; mine_is = refl; theirs_is = sym (no_rows r fs (sym same)); parted = tt }
  until-from s (e ∷ es) up within reached r fs rising h same = by (until-from (after s e) es up.1 within.1) (is_own vid needs s e) refl reached same
    where
      by : (Reached vid needs (own_rows vid needs (after s e) es) → Onward (after s e) es) → (b : Bool) → is_own vid needs s e ≡ b
          → Reached vid needs (cond b (row_of s e ∷ own_rows vid needs (after s e) es) (own_rows vid needs (after s e) es))
          → cond b (e ∷ own_from vid needs (after s e) es) (own_from vid needs (after s e) es) ≡ own_from vid needs r fs
          → Until vid s.bridges.settings r.bridges.settings (e ∷ es) fs (cond b (row_of s e ∷ own_rows vid needs (after s e) es) (own_rows vid needs (after s e) es)) (own_rows vid needs r fs)
      by next true is all both = sought e es s up.0 is (within.0 is, all.0) (next all.1) r fs rising h both
      by next false is all both = until-left vid s r.bridges.settings e es fs (own_rows vid needs (after s e) es) (own_rows vid needs r fs) (next all r fs rising (Related-left vid needs s r e up.0 h is) both)

  -- ---- what is read of them

  begins : {A : Type 0} (read : List Row → List A) → Reads A vid needs read → (s : State) (es : List Event) (alike mine : List Row) → alike ++ mine ≡ own_rows vid needs s es → read (rows s es) ≡ read alike ++ read mine
  begins read reads s es alike mine is = reads.own s es ∙ sym (ap read is) ∙ reads.append alike mine

  reads-records : (output : Tap) → Reads Record vid needs (λ rs. records_in vid output (departures rs))
  reads-records output = record {
    own = λ s es. sym (records_by vid output (rows s es)) ∙ ap (records_of output) ((reads-departures vid needs).own s es) ∙ records_by vid output (own_rows vid needs s es);
    append = λ rs ts. sym (records_by vid output (rs ++ ts)) ∙ ap (records_of output) ((reads-departures vid needs).append rs ts)
        ∙ records-append output (departures_in vid rs) (departures_in vid ts)
        ∙ (λ i. records_by vid output rs i ++ records_by vid output ts i);
  }

  pub agree-until : (S T : Settings) (es fs : List Event) → IsRising 0 es → IsRising 0 fs → IsEnough vid needs S es → part_of vid needs S ≡ part_of vid needs T → own_events vid needs S es ≡ own_events vid needs T fs → AgreeUntil vid needs S T es fs
  agree-until S T es fs up rising enough same events =
      let u : Until vid S T es fs (own_rows vid needs (opened S) es) (own_rows vid needs (opened T) fs) =
      until-from (opened S) es up (within-from vid needs (opened S) es enough.changes) enough.remotes (opened T) fs rising (Related-opened vid needs S T enough.members same)
      (own_from-is vid needs (opened S) es ∙ events ∙ sym (own_from-is vid needs (opened T) fs)) in
      record {
        alike = u.alike;
        mine = u.mine;
        theirs = u.theirs;
        mine_is = u.mine_is;
        theirs_is = u.theirs_is;
        parted = u.parted;
        records = λ output. record {
          mine_is = begins (λ rs. records_in vid output (departures rs)) (reads-records output) (opened S) es u.alike u.mine u.mine_is;
          theirs_is = begins (λ rs. records_in vid output (departures rs)) (reads-records output) (opened T) fs u.alike u.theirs u.theirs_is;
        };
        told = record {
          mine_is = begins (lines_in vid) (reads-lines vid needs) (opened S) es u.alike u.mine u.mine_is;
          theirs_is = begins (lines_in vid) (reads-lines vid needs) (opened T) fs u.alike u.theirs u.theirs_is;
        };
      }

pub captures-until : (vid : ℕ) (needs : Needs) (s t : Told) (x y : Inputs) (l m : Timeline) (o p : Outputs) → IsRunOf s x l o → IsRunOf t y m p → IsEnough vid needs (settings_told s) (coming x l) → TellAlike vid needs s t
    → ((source : Source) → own_coming vid needs s x l source ≡ own_coming vid needs t y m source) → AgreeUntil vid needs (settings_told s) (settings_told t) (coming x l) (coming y m)
captures-until vid needs s t x y l m o p is other enough told same =
    agree-until vid needs (settings_told s) (settings_told t) (coming x l) (coming y m) (rises s x l o is) (rises t y m p other) enough (part-told vid needs s t told)
    (same_by_source (own_events vid needs (settings_told s) (coming x l)) (own_events vid needs (settings_told t) (coming y m)) (turns vid needs s x l o is) (turns vid needs t y m p other) same)
