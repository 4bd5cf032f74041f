-- What is decided of a frame that came to a segment stands on what all segments share and on what is the segment's own.
use Rattle.std.proofs.Common.{◌≡◌, ℕ, ◌==◌, Bool, true, false, cond, List, map, length, Option, Some, None, Result, Ok, Err, refl, sym, ap, ◌∙◌, subst}
use Rattle.std.specs.Option.{option_and_then, option_map_or}
use Rattle.std.proofs.Math.Path.{fun_ext}
use Rattle.std.proofs.lemmas.Bool.{eqb-true}
use Rattle.wire.specs.Frame.{Frame}
use Rattle.wire.specs.declared.ether.reason.Reason.{Reason}
use Rattle.wire.specs.declared.ether.reason.Refused.{Refused}
use Rattle.overlay.specs.Ports.{Ports, Members, members_at}
use Rattle.overlay.specs.declared.ports.port.PortRule.{PortRule}
use Rattle.overlay.specs.Overlay.{segment_at as overlay_segment}
use Rattle.overlay.specs.declared.underlay.segment.Segment.{Segment}
use Rattle.overlay.specs.declared.underlay.settings.Underlay.{Underlay}
use Rattle.filter_db.specs.declared.place.Place.{Place}
use Rattle.filter_db.specs.Table.{Table}
use Rattle.overlay.specs.declared.settings.change.Change.{Change}
use Rattle.endpoint_core.specs.declared.state.fault.ChangeFault.{ChangeFault}
use Rattle.endpoint_core.specs.Settings.{BridgeSettings, SegmentSettings, segment_at}
use Rattle.endpoint_core.specs.Change.{is_about, table_fault}
use Rattle.endpoint_core.specs.State.{State as Bridges, table_changed, accepted_state}
use Rattle.endpoint_core.specs.StateStep.{table_learned, verdict_in, verdict}
use Rattle.endpoint_core.specs.Among.{segment_of}
use Rattle.endpoint_core.specs.Arrival.{Arrival}
use Rattle.endpoint_core.specs.Decision.{Sent, forwarded}
use Rattle.endpoint_core.specs.Step.{sent_at, by_verdict, decided_in, decided}
use Rattle.noninterference.specs.Alone.{is_segment}
use Rattle.noninterference.proofs.Entering.{with_ports}
use Rattle.noninterference.proofs.Leaving.{emitted-same}
use Rattle.noninterference.proofs.Seeing.{own_by}

-- what is the same at a VID is the same at one that is equal to it
pub same-at : {A : Type 0} (f g : ℕ → A) (vid v : ℕ) → f vid ≡ g vid → (vid == v) ≡ true → f v ≡ g v
same-at f g vid v h same = subst (λ (w : ℕ). f w ≡ g w) (eqb-true vid v same) h

-- ---- what a decision stands on

pub record Basis : Type 0 where
  pub underlay : Underlay
  pub ports : List PortRule
  -- the three parts of the segment's own settings
  pub members : Option Members
  pub segment : Option Segment
  pub bridge : Option BridgeSettings
  -- its own table
  pub table : Table

abbrev pub basis : ℕ → Bridges → Basis
basis vid B = record {
  underlay = B.settings.overlay.underlay;
  ports = B.settings.ports.ports;
  members = members_at B.settings.ports vid;
  segment = overlay_segment B.settings.overlay vid;
  bridge = B.settings.bridges vid;
  table = B.tables vid;
}

-- the segment's own settings
abbrev pub rules_in : Basis → Option SegmentSettings
rules_in w = own_by w.bridge w.segment w.members

-- ---- a frame

-- a verdict asks of the ports which are up
verdict_in-is : (P : Ports) (o : Option SegmentSettings) (from : Place) (f : Frame) (m : Table) → verdict_in P o from f m ≡ verdict_in (with_ports P.ports) o from f m
verdict_in-is P None from f m = refl
verdict_in-is P (Some s) from f m = refl

-- the table of the segment after a frame came to that of a VID
abbrev pub table_came : ℕ → ℕ → ℕ → Place → Frame → Basis → Table
table_came t vid v from f w = cond (vid == v) (table_learned t from f (rules_in w) w.table) w.table

abbrev verdict_by : ℕ → ℕ → Place → Frame → Basis → Result (List Place) Reason
verdict_by t vid from f w = verdict_in (with_ports w.ports) (rules_in w) from f (table_came t vid vid from f w)

verdict-is : (t vid : ℕ) (from : Place) (f : Frame) (B : Bridges) → verdict t vid from f B ≡ verdict_by t vid from f (basis vid B)
verdict-is t vid from f B = verdict_in-is B.settings.ports (segment_at B.settings vid) from f (table_came t vid vid from f (basis vid B))

verdict-same : (t vid : ℕ) (from : Place) (f : Frame) (B C : Bridges) → basis vid B ≡ basis vid C → verdict t vid from f B ≡ verdict t vid from f C
verdict-same t vid from f B C h = verdict-is t vid from f B ∙ ap (verdict_by t vid from f) h ∙ sym (verdict-is t vid from f C)

abbrev two_by : Option Segment → Bool
two_by segment = option_map_or (λ g. length g.tunnels == 2) segment false

sent-same : (vid : ℕ) (B C : Bridges) → basis vid B ≡ basis vid C → (f : Frame) → sent_at B.settings vid f ≡ sent_at C.settings vid f
sent-same vid B C h f = fun_ext (λ place. ap (λ (r : Result (List ℕ) Reason). let sent : Sent = record { place = place; sent = r } in sent)
    (emitted-same vid B.settings.ports C.settings.ports B.settings.overlay C.settings.overlay (ap (λ (w : Basis). w.members) h) (ap (λ (w : Basis). w.underlay) h) (ap (λ (w : Basis). w.segment) h) f place))

by_verdict-same : (B C : Bridges) (x : Arrival) → basis x.vid B ≡ basis x.vid C → (v : Result (List Place) Reason) → by_verdict B.settings x v ≡ by_verdict C.settings x v
by_verdict-same B C x h (Err reason) = refl
by_verdict-same B C x h (Ok places) =
    let sents : sent_at B.settings x.vid x.frame ≡ sent_at C.settings x.vid x.frame = sent-same x.vid B C h x.frame in
    λ i. forwarded x.vid (two_by (h i).segment) (map (sents i) places)

decided_in-same : (t : ℕ) (B C : Bridges) (x : Arrival) → basis x.vid B ≡ basis x.vid C → decided_in t B x ≡ decided_in t C x
decided_in-same t B C x h =
    ap (by_verdict B.settings x) (verdict-same t x.vid x.from x.frame B C h)
    ∙ by_verdict-same B C x h (verdict t x.vid x.from x.frame C)

pub decided-same : (vid t : ℕ) (B C : Bridges) → basis vid B ≡ basis vid C → (r : Result Arrival Refused) → is_segment vid (segment_of r) ≡ true → decided t B r ≡ decided t C r
decided-same vid t B C h (Ok x) own = decided_in-same t B C x (same-at (λ v. basis v B) (λ v. basis v C) vid x.vid h own)
decided-same vid t B C h (Err refused) own = refl

-- ---- a change

-- why a table refuses it
abbrev pub fault_at : Bridges → Change → Option ℕ → Option ChangeFault
fault_at B c o = option_and_then (λ v. option_and_then (λ s. table_fault s c (B.tables v)) (segment_at B.settings v)) o

pub fault_at-same : (vid : ℕ) (B C : Bridges) → basis vid B ≡ basis vid C → (c : Change) (o : Option ℕ) → option_map_or (λ own. vid == own) o true ≡ true → fault_at B c o ≡ fault_at C c o
fault_at-same vid B C h c None about = refl
fault_at-same vid B C h c (Some v) about =
    ap (λ (w : Basis). option_and_then (λ s. table_fault s c w.table) (rules_in w)) (same-at (λ v. basis v B) (λ v. basis v C) vid v h about)

pub table_chosen : (t : ℕ) (c : Change) (B : Bridges) (vid : ℕ) (b : Bool) → (cond b (accepted_state t c B) B).tables vid ≡ cond b (table_changed t c (segment_at B.settings vid) vid (B.tables vid)) (B.tables vid)
table_chosen t c B vid true = refl
table_chosen t c B vid false = refl

-- a change that isn't about the segment leaves its table
pub unchanged : (t : ℕ) (c : Change) (o : Option SegmentSettings) (vid : ℕ) (m : Table) → is_about vid c ≡ false → (b : Bool) → cond b (table_changed t c o vid m) m ≡ m
unchanged t c o vid m other false = refl
unchanged t c None vid m other true = rw other refl
unchanged t c (Some s) vid m other true = rw other refl
