-- An event that concerns a segment does the same to two states that look alike to it, and another event does nothing.
use Rattle.std.proofs.Common.{◌≡◌, ℕ, Bool, true, false, cond, ◌||◌, List, Option, Some, None, Result, Ok, Err, refl, sym, ap, ◌∙◌}
use Rattle.std.specs.Prelude.{is_none}
use Rattle.std.specs.Option.{option_and_then}
use Rattle.std.proofs.lemmas.Bool.{false≢true}
use Rattle.wire.specs.declared.ether.reason.Reason.{Reason}
use Rattle.wire.specs.declared.ether.reason.Refused.{Refused}
use Rattle.filter_db.specs.declared.place.Place.{Place}
use Rattle.filter_db.specs.Table.{Table}
use Rattle.overlay.specs.declared.settings.change.Change.{Change}
use Rattle.overlay.specs.declared.settings.change.Change.TheVariants.{Fix, Unfix, SetMember}
use Rattle.endpoint_core.specs.Settings.{Settings, SegmentSettings, segment_at}
use Rattle.endpoint_core.specs.Effect.{effect}
use Rattle.endpoint_core.specs.Change.{named, is_about, refused, changed, table_fault}
use Rattle.endpoint_core.specs.State.{State as Bridges, fault, table_changed, after_change}
use Rattle.endpoint_core.specs.StateStep.{table_learned, verdict}
use Rattle.endpoint_core.proofs.ChangeLemmas.{settings-alone}
use Rattle.endpoint_core.specs.Among.{segment_of}
use Rattle.endpoint_core.specs.Arrival.{Arrival}
use Rattle.endpoint_core.specs.Arrival.{came_at, came_by}
use Rattle.endpoint_core.specs.Event.{Input, FrameAt, Packet, Asks}
use Rattle.endpoint_core.specs.Step.{Decided, Replied, by_verdict, decided, after_came, answer_by, bridges_after}
use Rattle.noninterference.specs.Alone.{is_segment, all_see, concerns_by}
use Rattle.noninterference.proofs.Seeing.{Seen, View, seen, viewed, own_of}
use Rattle.noninterference.proofs.Refusing.{refused-same}
use Rattle.noninterference.proofs.Changing.{changed-same, changed-other}
use Rattle.noninterference.proofs.Coming.{came_at-same, came_by-same}
use Rattle.noninterference.proofs.Deciding.{Basis, table_came, decided-same, fault_at, fault_at-same, table_chosen, unchanged}

-- what a decision stands on is seen
abbrev pub in_view : View → Basis
in_view w = record {
  underlay = w.settings.underlay;
  ports = w.settings.ports;
  members = w.settings.members;
  segment = w.settings.segment;
  bridge = w.settings.bridge;
  table = w.table;
}

-- ---- what is decided of a frame

by_verdict-segment : (S : Settings) (x : Arrival) (v : Result (List Place) Reason) → (by_verdict S x v).segment ≡ Some x.vid
by_verdict-segment S x (Ok places) = refl
by_verdict-segment S x (Err reason) = refl

-- a decision carries the segment that the frame or packet comes to, or is refused in
pub decided-segment : (t : ℕ) (B : Bridges) (r : Result Arrival Refused) → (decided t B r).segment ≡ segment_of r
decided-segment t B (Ok x) = by_verdict-segment B.settings x (verdict t x.vid x.from x.frame B)
decided-segment t B (Err refused) = refl

-- ---- the state after a frame

abbrev came_view : ℕ → ℕ → Result Arrival Refused → View → View
came_view vid t (Ok x) w = record { settings = w.settings; table = table_came t vid x.vid x.from x.frame (in_view w) }
came_view vid t (Err refused) w = w

after_came-is : (vid t : ℕ) (r : Result Arrival Refused) (B : Bridges) → viewed vid (after_came t B r) ≡ came_view vid t r (viewed vid B)
after_came-is vid t (Ok x) B = refl
after_came-is vid t (Err refused) B = refl

-- a frame of another segment
came_view-other : (vid t : ℕ) (r : Result Arrival Refused) (w : View) → is_segment vid (segment_of r) ≡ false → came_view vid t r w ≡ w
came_view-other vid t (Ok x) w other = ap (λ (b : Bool). let left : View = record { settings = w.settings; table = cond b (table_learned t x.from x.frame (own_of w.settings) w.table) w.table } in left) other
came_view-other vid t (Err refused) w other = refl

-- ---- a change

or_false : (b : Bool) → b || false ≡ true → b ≡ true
or_false true h = refl
or_false false h = h

neither : (a b : Bool) → a || b ≡ false → (a ≡ false) × (b ≡ false)
neither true b h = absurd (false≢true (sym h))
neither false b h = (refl, h)

-- a table refuses no change that every segment sees
unseen_fault : (c : Change) (s : SegmentSettings) (m : Table) → all_see (effect c) ≡ true → table_fault s c m ≡ None
unseen_fault (Fix v mac target) s m seen = absurd (false≢true seen)
unseen_fault (Unfix v mac) s m seen = absurd (false≢true seen)
unseen_fault (SetMember v port (Some egress)) s m seen = refl
unseen_fault (SetMember v port None) s m seen = refl
unseen_fault c s m seen = refl

no_fault_in : (c : Change) (o : Option SegmentSettings) (m : Table) → all_see (effect c) ≡ true → option_and_then (λ s. table_fault s c m) o ≡ None
no_fault_in c None m seen = refl
no_fault_in c (Some s) m seen = unseen_fault c s m seen

no_fault_at : (B : Bridges) (c : Change) (o : Option ℕ) → all_see (effect c) ≡ true → fault_at B c o ≡ None
no_fault_at B c None seen = refl
no_fault_at B c (Some v) seen = no_fault_in c (segment_at B.settings v) (B.tables v) seen

fault-same : (vid : ℕ) (B C : Bridges) → viewed vid B ≡ viewed vid C → (c : Change) → is_about vid c || all_see (effect c) ≡ true → fault B c ≡ fault C c
fault-same vid B C h c concerned =
    let settings : refused B.settings c ≡ refused C.settings c = refused-same vid B.settings C.settings (ap (λ (w : View). w.settings) h) c concerned in
    let tables : fault_at B c (named c) ≡ fault_at C c (named c) = by (all_see (effect c)) refl concerned in
    λ i. elim (settings i) [ Some why ↦ Some why | None ↦ tables i ]
  where
    by : (b : Bool) → all_see (effect c) ≡ b → is_about vid c || b ≡ true → fault_at B c (named c) ≡ fault_at C c (named c)
    by true seen own = no_fault_at B c (named c) seen ∙ sym (no_fault_at C c (named c) seen)
    by false unseen own = fault_at-same vid B C (ap in_view h) c (named c) (or_false (is_about vid c) own)

viewed_changed : (vid t : ℕ) (c : Change) (B : Bridges) → viewed vid (after_change t c B) ≡ (let left : View = record { settings = seen vid (changed B.settings c); table = cond (is_none (refused B.settings c)) (table_changed t c (segment_at B.settings vid) vid (B.tables vid)) (B.tables vid) } in left)
viewed_changed vid t c B = λ i. record { settings = seen vid (settings-alone t c B i); table = table_chosen t c B vid (is_none (refused B.settings c)) i }

change-same : (vid t : ℕ) (B C : Bridges) → viewed vid B ≡ viewed vid C → (c : Change) → is_about vid c || all_see (effect c) ≡ true → viewed vid (after_change t c B) ≡ viewed vid (after_change t c C)
change-same vid t B C h c about =
    let S : seen vid B.settings ≡ seen vid C.settings = ap (λ (w : View). w.settings) h in
    let answers : refused B.settings c ≡ refused C.settings c = refused-same vid B.settings C.settings S c about in
    let settings : seen vid (changed B.settings c) ≡ seen vid (changed C.settings c) = changed-same vid B.settings C.settings S c about in
    viewed_changed vid t c B
    ∙ (λ i. record { settings = settings i; table = cond (is_none (answers i)) (table_changed t c (own_of (h i).settings) vid (h i).table) (h i).table })
    ∙ sym (viewed_changed vid t c C)

change-other : (vid t : ℕ) (c : Change) (B : Bridges) → is_about vid c || all_see (effect c) ≡ false → viewed vid (after_change t c B) ≡ viewed vid B
change-other vid t c B other =
    let both = neither (is_about vid c) (all_see (effect c)) other in
    viewed_changed vid t c B
    ∙ (λ i. record { settings = changed-other vid B.settings c both.0 both.1 i; table = unchanged t c (segment_at B.settings vid) vid (B.tables vid) both.0 (is_none (refused B.settings c)) i })

-- ---- an event

-- what comes to the segment is read alike
port-same : (vid : ℕ) (S T : Settings) → seen vid S ≡ seen vid T → (port original : ℕ) (b : List ℕ) → is_segment vid (segment_of (came_at S.ports S.overlay port original b)) ≡ true → came_at T.ports T.overlay port original b ≡ came_at S.ports S.overlay port original b
port-same vid S T h port original b own =
    came_at-same vid S.ports T.ports S.overlay T.overlay (ap (λ (x : Seen). x.ports) h) (ap (λ (x : Seen). x.members) h) (ap (λ (x : Seen). x.segment) h) port original b own

tunnel-same : (vid : ℕ) (S T : Settings) → seen vid S ≡ seen vid T → (original : ℕ) (b : List ℕ) → is_segment vid (segment_of (came_by S.overlay original b)) ≡ true → came_by T.overlay original b ≡ came_by S.overlay original b
tunnel-same vid S T h original b own =
    came_by-same vid S.overlay T.overlay (ap (λ (x : Seen). x.underlay) h) (λ w. ap (λ (x : Seen). x.tunnels w) h) (ap (λ (x : Seen). x.segment) h) original b own

-- a decision that carries the segment is of what comes to it
comes : (vid t : ℕ) (B : Bridges) (r : Result Arrival Refused) (b : Bool) → is_segment vid (decided t B r).segment ≡ b → is_segment vid (segment_of r) ≡ b
comes vid t B r b is = sym (ap (is_segment vid) (decided-segment t B r)) ∙ is

module _ (vid t : ℕ) (B C : Bridges) (h : viewed vid B ≡ viewed vid C) where
  alike : seen vid B.settings ≡ seen vid C.settings
  alike = ap (λ (w : View). w.settings) h

  pub answer-same : (i : Input) → concerns_by vid (answer_by t B i) i ≡ true → answer_by t B i ≡ answer_by t C i
  answer-same (FrameAt port original b) own =
      let it = comes vid t B (came_at B.settings.ports B.settings.overlay port original b) true own in
      ap Decided (decided-same vid t B C (ap in_view h) (came_at B.settings.ports B.settings.overlay port original b) it ∙ sym (ap (decided t C) (port-same vid B.settings C.settings alike port original b it)))
  answer-same (Packet original b) own =
      let it = comes vid t B (came_by B.settings.overlay original b) true own in
      ap Decided (decided-same vid t B C (ap in_view h) (came_by B.settings.overlay original b) it ∙ sym (ap (decided t C) (tunnel-same vid B.settings C.settings alike original b it)))
  answer-same (Asks c) own = ap Replied (fault-same vid B C h c own)

  came-same : (r s : Result Arrival Refused) → s ≡ r → viewed vid (after_came t B r) ≡ viewed vid (after_came t C s)
  came-same r s same =
      after_came-is vid t r B ∙ ap (came_view vid t r) h ∙ sym (after_came-is vid t r C) ∙ sym (ap (λ (x : Result Arrival Refused). viewed vid (after_came t C x)) same)

  pub after-same : (i : Input) → concerns_by vid (answer_by t B i) i ≡ true → viewed vid (bridges_after t B i) ≡ viewed vid (bridges_after t C i)
  after-same (FrameAt port original b) own =
      came-same (came_at B.settings.ports B.settings.overlay port original b) (came_at C.settings.ports C.settings.overlay port original b)
      (port-same vid B.settings C.settings alike port original b (comes vid t B (came_at B.settings.ports B.settings.overlay port original b) true own))
  after-same (Packet original b) own =
      came-same (came_by B.settings.overlay original b) (came_by C.settings.overlay original b)
      (tunnel-same vid B.settings C.settings alike original b (comes vid t B (came_by B.settings.overlay original b) true own))
  after-same (Asks c) own = change-same vid t B C h c own

came-other : (vid t : ℕ) (B : Bridges) (r : Result Arrival Refused) → is_segment vid (decided t B r).segment ≡ false → viewed vid (after_came t B r) ≡ viewed vid B
came-other vid t B r other = after_came-is vid t r B ∙ came_view-other vid t r (viewed vid B) (comes vid t B r false other)

pub after-other : (vid t : ℕ) (B : Bridges) (i : Input) → concerns_by vid (answer_by t B i) i ≡ false → viewed vid (bridges_after t B i) ≡ viewed vid B
after-other vid t B (FrameAt port original b) other = came-other vid t B (came_at B.settings.ports B.settings.overlay port original b) other
after-other vid t B (Packet original b) other = came-other vid t B (came_by B.settings.overlay original b) other
after-other vid t B (Asks c) other = change-other vid t c B other
