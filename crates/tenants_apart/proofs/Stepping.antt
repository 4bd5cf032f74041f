-- An event of a segment's own does the same to two states that have the same of it, and another event does nothing to it.
use Rattle.std.proofs.Common.{◌≡◌, ℕ, ◌==◌, Bool, true, false, cond, ◌&&◌, List, [], map, length, Option, Some, None, Result, Ok, Err, refl, sym, ap, ◌∙◌, subst}
use Rattle.std.specs.Prelude.{is_none, is_some, IsSome}
use Rattle.std.specs.FinMap.{empty, get}
use Rattle.std.proofs.lemmas.Bool.{false≢true, eqb-true}
use Rattle.std.proofs.lemmas.Option.{none-some}
use Rattle.std.specs.Option.{option_and_then, option_map_or}
use Rattle.wire.specs.Frame.{Frame}
use Rattle.wire.specs.declared.ether.reason.Reason.{Reason}
use Rattle.wire.specs.declared.ether.reason.Refused.{Refused}
use Rattle.filter_db.specs.declared.place.Place.{Place}
use Rattle.filter_db.specs.declared.place.Place.TheVariants.{Local}
use Rattle.filter_db.specs.Place.{same_place}
use Rattle.filter_db.specs.Table.{Table}
use Rattle.overlay.specs.Ports.{Members, members_at, egress_at}
use Rattle.overlay.specs.Overlay.{segment_at as overlay_segment}
use Rattle.overlay.specs.declared.ports.member.Egress.{Egress}
use Rattle.overlay.specs.declared.ports.port.PortRule.{PortRule}
use Rattle.overlay.specs.declared.underlay.segment.Segment.{Segment}
use Rattle.overlay.specs.declared.settings.change.Change.{Change}
use Rattle.overlay.specs.declared.settings.change.Change.TheVariants.{AddFlood, RemoveFlood, Fix, Unfix, SetAgeing, SetLearning, SetMember, PortUp, PortDown, Flush, AddSegment, RemoveSegment, SetLimit}
use Rattle.tunnel_learning.specs.Bridge.{is_up_at, serves}
use Rattle.endpoint_core.specs.Effect.{effect}
use Rattle.endpoint_core.specs.Settings.{Settings, SegmentSettings, segment_at}
use Rattle.endpoint_core.specs.Change.{named, is_about, refused, accepted, changed, table_fault}
use Rattle.endpoint_core.specs.State.{State as Bridges, fault, table_changed, after_change}
use Rattle.endpoint_core.specs.StateStep.{config_of, table_learned, verdict_in, verdict}
use Rattle.endpoint_core.proofs.ChangeLemmas.{settings-alone}
use Rattle.endpoint_core.specs.Arrival.{Arrival}
use Rattle.endpoint_core.specs.Arrival.{came_at, came_by}
use Rattle.endpoint_core.specs.Event.{Input, FrameAt, Packet, Asks}
use Rattle.endpoint_core.specs.Decision.{forwarded}
use Rattle.endpoint_core.specs.Step.{Decided, Replied, by_verdict, decided, after_came, answer_by, bridges_after}
use Rattle.noninterference.specs.Alone.{is_segment}
use Rattle.noninterference.proofs.Deciding.{Basis, same-at, table_came, fault_at, table_chosen, unchanged}
use Rattle.tenants_apart.specs.Own.{Needs, Part, port_there, part_of, segment_met, is_needed, is_own_change, names_or_concerns, asks_room, is_within, asks_within, IsReached}
use Rattle.tenants_apart.proofs.Changing.{part-accepted, own-about, own-needed, changed-own, changed-other}
use Rattle.tenants_apart.proofs.Coming.{came_at-own, came_by-own, came-from, tunnel-from}
use Rattle.tenants_apart.proofs.Kept.{Own, owned, MembersIn, TableIn, Kept, FromNeeded, table-learned, kept-changed}
use Rattle.tenants_apart.proofs.Leaving.{members-of}
use Rattle.tenants_apart.proofs.Outlets.{outlets-same}
use Rattle.tenants_apart.proofs.There.{up-there}
use Rattle.tenants_apart.proofs.Refusing.{whole_of, refused-own}
use Rattle.tenants_apart.proofs.Sending.{sents-needed}

-- ---- what a segment has of a state

-- what a table is changed by is the segment's own
abbrev pub in_own : Own → Basis
in_own w = record {
  underlay = w.settings.shared.underlay;
  ports = [];
  members = w.settings.members;
  segment = w.settings.tunnels;
  bridge = w.settings.bridge;
  table = w.table;
}

-- ---- what is decided of a frame

-- a port serves the segment in both or in neither
serves-needed : (v : ℕ) (needs : Needs) (S T : Settings) → part_of v needs S ≡ part_of v needs T → MembersIn needs (members_at S.ports v) → (s : SegmentSettings) → members_at S.ports v ≡ Some s.members
    → (q : ℕ) → serves (config_of S.ports s) q ≡ serves (config_of T.ports s) q
serves-needed v needs S T h members s is q = by (needs.ports q) refl
  where
    by : (b : Bool) → needs.ports q ≡ b → serves (config_of S.ports s) q ≡ serves (config_of T.ports s) q
    by true needed =
        let same : port_there S.ports q ≡ port_there T.ports q =
        ap (λ (b : Bool). cond b (port_there S.ports q) None) (sym needed) ∙ ap (λ (x : Part). x.ports q) h ∙ ap (λ (b : Bool). cond b (port_there T.ports q) None) needed in
        ap (λ (up : Bool). up && is_some (get s.members q)) (up-there S.ports q ∙ ap (λ (o : Option PortRule). option_map_or (λ (r : PortRule). r.up) o false) same ∙ sym (up-there T.ports q))
    by false other =
        let none : get s.members q ≡ None = sym (ap (λ (o : Option Members). option_and_then (λ m. get m q) o) is) ∙ members q other in
        let shut : (up : Bool) → up && is_some (get s.members q) ≡ false = λ up. ap (λ (o : Option Egress). up && is_some o) none ∙ never up in
        shut (is_up_at (map (λ (r : PortRule). r.up) S.ports.ports) q) ∙ sym (shut (is_up_at (map (λ (r : PortRule). r.up) T.ports.ports) q))
      where
        never : (up : Bool) → up && false ≡ false
        never true = refl
        never false = refl

verdict-ports : (v : ℕ) (needs : Needs) (S T : Settings) → part_of v needs S ≡ part_of v needs T → MembersIn needs (members_at S.ports v) → (o : Option SegmentSettings) → segment_at S v ≡ o → (from : Place) (f : Frame) (m : Table)
    → verdict_in S.ports o from f m ≡ verdict_in T.ports o from f m
verdict-ports v needs S T h members None is from f m = refl
verdict-ports v needs S T h members (Some s) is from f m =
    outlets-same (config_of S.ports s) (map (λ (r : PortRule). r.up) S.ports.ports) (map (λ (r : PortRule). r.up) T.ports.ports)
    (serves-needed v needs S T h members s (members-of (S.bridges v) (overlay_segment S.overlay v) (members_at S.ports v) s is)) from f m

verdict-needed : (needs : Needs) (t v : ℕ) (from : Place) (f : Frame) (B C : Bridges) → owned v needs B ≡ owned v needs C → MembersIn needs (members_at B.settings.ports v) → verdict t v from f B ≡ verdict t v from f C
verdict-needed needs t v from f B C h members =
    verdict-ports v needs B.settings C.settings (ap (λ (w : Own). w.settings) h) members (segment_at B.settings v) refl from f (table_came t v v from f (in_own (owned v needs B)))
    ∙ ap (λ (w : Own). verdict_in C.settings.ports (whole_of w.settings) from f (table_came t v v from f (in_own w))) h

abbrev two_by : Option Segment → Bool
two_by segment = option_map_or (λ g. length g.tunnels == 2) segment false

-- where it is sent to remotes that the segment needs
by_verdict-needed : (needs : Needs) (B C : Bridges) (x : Arrival) → owned x.vid needs B ≡ owned x.vid needs C → (v : Result (List Place) Reason)
    → IsReached needs (Decided (by_verdict B.settings x v)) → by_verdict B.settings x v ≡ by_verdict C.settings x v
by_verdict-needed needs B C x h (Err reason) reached = refl
by_verdict-needed needs B C x h (Ok places) reached =
    let sents = sents-needed x.vid needs B.settings C.settings (ap (λ (w : Own). w.settings) h) x.frame places reached in
    λ i. forwarded x.vid (two_by (h i).settings.tunnels) (sents i)

decided-needed : (vid t : ℕ) (needs : Needs) (B C : Bridges) → owned vid needs B ≡ owned vid needs C → MembersIn needs (members_at B.settings.ports vid) → (r : Result Arrival Refused) → is_segment vid (segment_met r) ≡ true
    → IsReached needs (Decided (decided t B r)) → decided t B r ≡ decided t C r
decided-needed vid t needs B C h members (Err refused) own reached = refl
decided-needed vid t needs B C h members (Ok x) own reached =
    let here : owned x.vid needs B ≡ owned x.vid needs C = same-at (λ v. owned v needs B) (λ v. owned v needs C) vid x.vid h own in
    by_verdict-needed needs B C x here (verdict t x.vid x.from x.frame B) reached
    ∙ ap (by_verdict C.settings x) (verdict-needed needs t x.vid x.from x.frame B C here (subst (λ (v : ℕ). MembersIn needs (members_at B.settings.ports v)) (eqb-true vid x.vid own) members))

-- ---- the state after a frame

abbrev pub came_own : ℕ → ℕ → Result Arrival Refused → Own → Own
came_own vid t (Ok x) w = record { settings = w.settings; table = table_came t vid x.vid x.from x.frame (in_own w) }
came_own vid t (Err refused) w = w

pub after_came-is : (vid t : ℕ) (needs : Needs) (r : Result Arrival Refused) (B : Bridges) → owned vid needs (after_came t B r) ≡ came_own vid t r (owned vid needs B)
after_came-is vid t needs (Ok x) B = refl
after_came-is vid t needs (Err refused) B = refl

-- a frame of another segment
came_own-other : (vid t : ℕ) (r : Result Arrival Refused) (w : Own) → is_segment vid (segment_met r) ≡ false → came_own vid t r w ≡ w
came_own-other vid t (Ok x) w other = ap (λ (b : Bool). let left : Own = record { settings = w.settings; table = cond b (table_learned t x.from x.frame (whole_of w.settings) w.table) w.table } in left) other
came_own-other vid t (Err refused) w other = refl

-- ---- a change

fault_at-same : (vid : ℕ) (needs : Needs) (B C : Bridges) → owned vid needs B ≡ owned vid needs C → (c : Change) (o : Option ℕ) → option_map_or (λ own. vid == own) o true ≡ true → fault_at B c o ≡ fault_at C c o
fault_at-same vid needs B C h c None about = refl
fault_at-same vid needs B C h c (Some v) about =
    ap (λ (w : Own). option_and_then (λ s. table_fault s c w.table) (whole_of w.settings)) (same-at (λ v. owned v needs B) (λ v. owned v needs C) vid v h about)

fault-same : (vid : ℕ) (needs : Needs) (B C : Bridges) → owned vid needs B ≡ owned vid needs C → (c : Change) → is_about vid c ≡ true → refused B.settings c ≡ refused C.settings c → fault B c ≡ fault C c
fault-same vid needs B C h c about alike =
    let tables : fault_at B c (named c) ≡ fault_at C c (named c) = fault_at-same vid needs B C h c (named c) about in
    λ i. elim (alike i) [ Some why ↦ Some why | None ↦ tables i ]

pub owned_changed : (vid t : ℕ) (needs : Needs) (c : Change) (B : Bridges) → owned vid needs (after_change t c B) ≡ (let left : Own = record { settings = part_of vid needs (changed B.settings c); table = cond (is_none (refused B.settings c)) (table_changed t c (segment_at B.settings vid) vid (B.tables vid)) (B.tables vid) } in left)
owned_changed vid t needs c B = λ i. record { settings = part_of vid needs (settings-alone t c B i); table = table_chosen t c B vid (is_none (refused B.settings c)) i }

change-same : (vid t : ℕ) (needs : Needs) (B C : Bridges) → owned vid needs B ≡ owned vid needs C → (c : Change) → refused B.settings c ≡ refused C.settings c → owned vid needs (after_change t c B) ≡ owned vid needs (after_change t c C)
change-same vid t needs B C h c alike =
    let settings : part_of vid needs (changed B.settings c) ≡ part_of vid needs (changed C.settings c) = changed-own vid needs B.settings C.settings (ap (λ (w : Own). w.settings) h) c alike in
    owned_changed vid t needs c B
    ∙ (λ i. record { settings = settings i; table = cond (is_none (alike i)) (table_changed t c (whole_of (h i).settings) vid (h i).table) (h i).table })
    ∙ sym (owned_changed vid t needs c C)

-- a change that isn't the segment's own does nothing to its table: it names another, or it is of a port where nothing was learned
other-table : (vid t : ℕ) (needs : Needs) (c : Change) (o : Option SegmentSettings) (m : Table) → (o ≡ None → m ≡ empty) → TableIn needs m → is_own_change vid needs c ≡ false → table_changed t c o vid m ≡ m
other-table vid t needs c o m absent learned other = by (is_about vid c) refl other
  where
    port-case : (c : Change) (o : Option SegmentSettings) → (o ≡ None → m ≡ empty) → is_about vid c ≡ true → is_needed needs (effect c) ≡ false → table_changed t c o vid m ≡ m
    port-case (PortUp port) None absent about unneeded = sym (absent refl)
    port-case (PortUp port) (Some s) absent about unneeded = refl
    port-case (PortDown port) None absent about unneeded = sym (absent refl)
    port-case (PortDown port) (Some s) absent about unneeded = learned port unneeded
    port-case (AddFlood v addr tunnel) o absent about unneeded = absurd (false≢true (sym unneeded))
    port-case (RemoveFlood v addr tunnel) o absent about unneeded = absurd (false≢true (sym unneeded))
    port-case (Fix v mac target) o absent about unneeded = absurd (false≢true (sym unneeded))
    port-case (Unfix v mac) o absent about unneeded = absurd (false≢true (sym unneeded))
    port-case (SetAgeing v seconds) o absent about unneeded = absurd (false≢true (sym unneeded))
    port-case (SetLearning v on) o absent about unneeded = absurd (false≢true (sym unneeded))
    port-case (SetMember v port egress) o absent about unneeded = absurd (false≢true (sym unneeded))
    port-case (Flush v) o absent about unneeded = absurd (false≢true (sym unneeded))
    port-case (AddSegment new) o absent about unneeded = absurd (false≢true (sym unneeded))
    port-case (RemoveSegment v) o absent about unneeded = absurd (false≢true (sym unneeded))
    port-case (SetLimit v limit) o absent about unneeded = absurd (false≢true (sym unneeded))

    by : (b : Bool) → is_about vid c ≡ b → b && is_needed needs (effect c) ≡ false → table_changed t c o vid m ≡ m
    by true is h = port-case c o absent is h
    by false is h = unchanged t c o vid m is true

made-or-not : (b : Bool) (x m : Table) → x ≡ m → cond b x m ≡ m
made-or-not true x m same = same
made-or-not false x m same = refl

change-other : (vid t : ℕ) (needs : Needs) (c : Change) (B : Bridges) → Kept needs (owned vid needs B) → is_own_change vid needs c ≡ false → owned vid needs (after_change t c B) ≡ owned vid needs B
change-other vid t needs c B kept other =
    owned_changed vid t needs c B
    ∙ (λ i. record {
      settings = changed-other vid needs B.settings c other i;
      table = made-or-not (is_none (refused B.settings c)) (table_changed t c (segment_at B.settings vid) vid (B.tables vid)) (B.tables vid)
          (other-table vid t needs c (segment_at B.settings vid) (B.tables vid) kept.absent kept.table other) i;
    })

-- ---- an event

-- where it is a change of the segment's own that needs room, two settings refuse it alike
abbrev pub AreRoomAlike : ℕ → Settings → Settings → Input → Type 0
AreRoomAlike vid S T (FrameAt port original b) = Unit {0}
AreRoomAlike vid S T (Packet original b) = Unit {0}
AreRoomAlike vid S T (Asks c) = asks_room vid c ≡ true → refused S c ≡ refused T c

module _ (vid t : ℕ) (needs : Needs) (B C : Bridges) (h : owned vid needs B ≡ owned vid needs C) (kept : Kept needs (owned vid needs B)) where
  alike : part_of vid needs B.settings ≡ part_of vid needs C.settings
  alike = ap (λ (w : Own). w.settings) h

  port-same : (port original : ℕ) (b : List ℕ) → is_segment vid (segment_met (came_at B.settings.ports B.settings.overlay port original b)) ≡ true → is_segment vid (segment_met (came_at C.settings.ports C.settings.overlay port original b)) ≡ true
      → came_at C.settings.ports C.settings.overlay port original b ≡ came_at B.settings.ports B.settings.overlay port original b
  port-same = came_at-own vid B.settings.ports C.settings.ports B.settings.overlay C.settings.overlay (ap (λ (x : Part). x.members) alike) (ap (λ (x : Part). x.tunnels) alike)

  tunnel-same : (original : ℕ) (b : List ℕ) → is_segment vid (segment_met (came_by B.settings.overlay original b)) ≡ true → is_segment vid (segment_met (came_by C.settings.overlay original b)) ≡ true → came_by C.settings.overlay original b ≡ came_by B.settings.overlay original b
  tunnel-same = came_by-own vid B.settings.overlay C.settings.overlay (ap (λ (x : Part). x.shared.underlay) alike) (ap (λ (x : Part). x.tunnels) alike)

  refused-alike : (c : Change) → is_own_change vid needs c ≡ true → asks_within needs B.settings c ≡ true → AreRoomAlike vid B.settings C.settings (Asks c) → refused B.settings c ≡ refused C.settings c
  refused-alike c own within room = refused-own vid needs B.settings C.settings alike c (own-about vid needs c own) (own-needed vid needs c own) within room

  pub answer-same : (i : Input) → names_or_concerns vid needs B.settings i ≡ true → names_or_concerns vid needs C.settings i ≡ true → AreRoomAlike vid B.settings C.settings i
      → is_within needs B.settings i ≡ true → IsReached needs (answer_by t B i) → answer_by t B i ≡ answer_by t C i
  answer-same (FrameAt port original b) own other room within reached =
      ap Decided (decided-needed vid t needs B C h kept.members (came_at B.settings.ports B.settings.overlay port original b) own reached ∙ sym (ap (decided t C) (port-same port original b own other)))
  answer-same (Packet original b) own other room within reached =
      ap Decided (decided-needed vid t needs B C h kept.members (came_by B.settings.overlay original b) own reached ∙ sym (ap (decided t C) (tunnel-same original b own other)))
  answer-same (Asks c) own other room within reached = ap Replied (fault-same vid needs B C h c (own-about vid needs c own) (refused-alike c own within room))

  came-same : (r s : Result Arrival Refused) → s ≡ r → owned vid needs (after_came t B r) ≡ owned vid needs (after_came t C s)
  came-same r s same =
      after_came-is vid t needs r B ∙ ap (came_own vid t r) h ∙ sym (after_came-is vid t needs r C) ∙ sym (ap (λ (x : Result Arrival Refused). owned vid needs (after_came t C x)) same)

  pub after-same : (i : Input) → names_or_concerns vid needs B.settings i ≡ true → names_or_concerns vid needs C.settings i ≡ true → AreRoomAlike vid B.settings C.settings i
      → is_within needs B.settings i ≡ true → owned vid needs (bridges_after t B i) ≡ owned vid needs (bridges_after t C i)
  after-same (FrameAt port original b) own other room within =
      came-same (came_at B.settings.ports B.settings.overlay port original b) (came_at C.settings.ports C.settings.overlay port original b) (port-same port original b own other)
  after-same (Packet original b) own other room within =
      came-same (came_by B.settings.overlay original b) (came_by C.settings.overlay original b) (tunnel-same original b own other)
  after-same (Asks c) own other room within = change-same vid t needs B C h c (refused-alike c own within room)

came-other : (vid t : ℕ) (needs : Needs) (B : Bridges) (r : Result Arrival Refused) → is_segment vid (segment_met r) ≡ false → owned vid needs (after_came t B r) ≡ owned vid needs B
came-other vid t needs B r other = after_came-is vid t needs r B ∙ came_own-other vid t r (owned vid needs B) other

pub after-other : (vid t : ℕ) (needs : Needs) (B : Bridges) → Kept needs (owned vid needs B) → (i : Input) → names_or_concerns vid needs B.settings i ≡ false → owned vid needs (bridges_after t B i) ≡ owned vid needs B
after-other vid t needs B kept (FrameAt port original b) other = came-other vid t needs B (came_at B.settings.ports B.settings.overlay port original b) other
after-other vid t needs B kept (Packet original b) other = came-other vid t needs B (came_by B.settings.overlay original b) other
after-other vid t needs B kept (Asks c) other = change-other vid t needs c B kept other

-- ---- what always holds

own_came-kept : (vid t : ℕ) (needs : Needs) (r : Result Arrival Refused) (w : Own) → ((x : Arrival) → r ≡ Ok x → FromNeeded needs x.from) → Kept needs w → Kept needs (came_own vid t r w)
own_came-kept vid t needs (Err refused) w from k = k
own_came-kept vid t needs (Ok x) w from k = record {
  members = k.members;
  table = by (vid == x.vid);
  absent = λ none. gone (vid == x.vid) (whole_of w.settings) none (k.absent none);
}
  where
    by : (b : Bool) → TableIn needs (cond b (table_learned t x.from x.frame (whole_of w.settings) w.table) w.table)
    by true = table-learned needs t x.from x.frame (whole_of w.settings) w.table (from x refl) k.table
    by false = k.table

    gone : (b : Bool) (o : Option SegmentSettings) → o ≡ None → w.table ≡ empty → cond b (table_learned t x.from x.frame o w.table) w.table ≡ empty
    gone true None none was = was
    gone true (Some s) none was = absurd (none-some s (sym none))
    gone false o none was = was

pub after-kept : (vid t : ℕ) (needs : Needs) (S : Settings) (B : Bridges) (i : Input) → names_or_concerns vid needs B.settings i ≡ true → is_within needs S i ≡ true → Kept needs (owned vid needs B) → Kept needs (owned vid needs (bridges_after t B i))
after-kept vid t needs S B (FrameAt port original b) own within k =
    let came = came_at B.settings.ports B.settings.overlay port original b in
    subst (Kept needs) (sym (after_came-is vid t needs came B)) (own_came-kept vid t needs came (owned vid needs B) from k)
  where
    from : (x : Arrival) → came_at B.settings.ports B.settings.overlay port original b ≡ Ok x → FromNeeded needs x.from
    from x is q other =
        let it = came-from vid B.settings.ports B.settings.overlay port original b x is own in
        ap (λ (p : Place). same_place p (Local q)) it.0 ∙ by (port == q) refl it.1
      where
        by : (b : Bool) → (port == q) ≡ b → IsSome (egress_at B.settings.ports vid port) → b ≡ false
        by false apart some = refl
        by true same some = absurd (false≢true (subst IsSome (ap (λ (n : ℕ). egress_at B.settings.ports vid n) (eqb-true port q same) ∙ k.members q other) some))
after-kept vid t needs S B (Packet original b) own within k =
    let came = came_by B.settings.overlay original b in
    subst (Kept needs) (sym (after_came-is vid t needs came B)) (own_came-kept vid t needs came (owned vid needs B) (λ x is q other. tunnel-from B.settings.overlay original b x is q) k)
after-kept vid t needs S B (Asks c) own within k = subst (Kept needs) (sym (owned_changed vid t needs c B)) (by (is_none (refused B.settings c)) refl)
  where
    by : (b : Bool) → is_none (refused B.settings c) ≡ b
        → (let left : Own = record { settings = part_of vid needs (cond b (accepted B.settings c) B.settings); table = cond b (table_changed t c (segment_at B.settings vid) vid (B.tables vid)) (B.tables vid) } in Kept needs left)
    by true taken =
        subst (λ (p : Part). let left : Own = record { settings = p; table = table_changed t c (segment_at B.settings vid) vid (B.tables vid) } in Kept needs left) (sym (part-accepted vid needs B.settings c taken))
        (kept-changed vid t needs S c (owned vid needs B) (own-about vid needs c own) within k)
    by false taken = k
