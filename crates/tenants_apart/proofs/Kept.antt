-- What always holds of what a segment has of a state: its members are ports that it needs, so nothing was learned at others.
use Rattle.std.proofs.Common.{◌≡◌, ◌∙◌, refl, sym, ap, ℕ, ◌==◌, Bool, true, false, cond, not, nat_lt, List, Option, Some, None, inl, inr}
use Rattle.std.specs.Prelude.{◌⊎◌, is_some, unwrap_or}
use Rattle.std.specs.Option.{option_map, option_and_then, option_map_or}
use Rattle.std.specs.FinMap.{empty, get, get-empty, len, insert, remove}
use Rattle.std.specs.Ordering.{nat_cmp}
use Rattle.std.proofs.lemmas.Bool.{false≢true, eqb-true}
use Rattle.std.proofs.lemmas.Option.{none-some}
use Rattle.wire.specs.Frame.{Frame}
use Rattle.filter_db.specs.Place.{same_place}
use Rattle.filter_db.specs.Table.{Table, nanoseconds, is_live, is_seen_at, is_fixed, is_learned, is_full, has_fixed, kept, learn, flush_place}
use Rattle.filter_db.specs.declared.entry.Entry.{Entry}
use Rattle.filter_db.specs.declared.place.Place.{Place}
use Rattle.filter_db.specs.declared.place.Place.TheVariants.{Local}
use Rattle.filter_db.proofs.TableLemmas.{kept_turned, kept-empty, kept-insert, kept-remove}
use Rattle.overlay.specs.Flood.{Entries}
use Rattle.overlay.specs.Ports.{Members, member_set}
use Rattle.overlay.specs.declared.underlay.segment.Segment.{Segment}
use Rattle.overlay.proofs.SetterLemmas.{get-member_set}
use Rattle.overlay.specs.declared.settings.change.Change.{Change}
use Rattle.overlay.specs.declared.settings.change.Change.TheVariants.{AddFlood, RemoveFlood, Fix, Unfix, SetAgeing, SetLearning, SetMember, PortUp, PortDown, Flush, AddSegment, RemoveSegment, SetLimit}
use Rattle.endpoint_core.specs.Settings.{Settings, BridgeSettings, SegmentSettings}
use Rattle.endpoint_core.specs.Effect.{Effect, ToFlood, ToBridge, ToLimit, ToMembers, ToPort, Comes, Goes, ToNothing, effect, TableEffect, Fixes, Unfixes, Forgets, ForgetsAll, Ages, Limits, Empties, KeepsAll, table_effect, table_applied}
use Rattle.endpoint_core.specs.Change.{is_about}
use Rattle.endpoint_core.specs.State.{State as Bridges, live_in, table_changed}
use Rattle.endpoint_core.specs.StateStep.{table_learned}
use Rattle.noninterference.proofs.Seeing.{own_by}
use Rattle.tenants_apart.specs.Own.{Needs, Part, part_of, asks_within}
use Rattle.tenants_apart.proofs.Changing.{part_applied, flooded}
use Rattle.tenants_apart.proofs.Refusing.{whole_of}

-- ---- what a segment has of a state

pub record Own : Type 0 where
  pub settings : Part
  pub table : Table

abbrev pub owned : ℕ → Needs → Bridges → Own
owned vid needs B = record { settings = part_of vid needs B.settings; table = B.tables vid }

abbrev pub aged_own : ℕ → Own → Own
aged_own t w = record { settings = w.settings; table = live_in w.settings.bridge t w.table }

-- ---- what always holds of it

abbrev pub MembersIn : Needs → Option Members → Type 0
MembersIn needs members = (q : ℕ) → needs.ports q ≡ false → option_and_then (λ m. get m q) members ≡ None

-- nothing was learned at a port that it doesn't need
abbrev pub TableIn : Needs → Table → Type 0
TableIn needs m = (q : ℕ) → needs.ports q ≡ false → flush_place (Local q) m ≡ m

pub record Kept (needs : Needs) (w : Own) : Type 0 where
  pub members : MembersIn needs w.settings.members
  pub table : TableIn needs w.table
  pub absent : whole_of w.settings ≡ None → w.table ≡ empty

-- ---- tables all of whose entries pass a test

kept-again : (p r : Entry → Bool) (m : Table) → kept p m ≡ m → kept p (kept r m) ≡ kept r m
kept-again p r m h = kept_turned p r m ∙ ap (kept r) h

pub live-pass : (p : Entry → Bool) (o : Option BridgeSettings) (t : ℕ) (m : Table) → kept p m ≡ m → kept p (live_in o t m) ≡ live_in o t m
live-pass p None t m h = kept-empty p
live-pass p (Some b) t m h = kept-again p (is_live (nanoseconds b.ageing) t) m h

-- a station is learned
learned-pass : (p : Entry → Bool) (limit t : ℕ) (from : Place) (mac : List ℕ) (m : Table) → (let entry : Entry = record { place = from; last = Some t } in p entry ≡ true) → kept p m ≡ m → kept p (learn limit t from mac m) ≡ learn limit t from mac m
learned-pass p limit t from mac m passes h = by (is_learned limit (len m) (get m mac))
  where
    entry : Entry
    entry = record { place = from; last = Some t }

    by : (b : Bool) → kept p (cond b (insert m mac entry) m) ≡ cond b (insert m mac entry) m
    by true = kept-insert p m mac entry passes h
    by false = h

pub table_learned-pass : (p : Entry → Bool) (t : ℕ) (from : Place) (f : Frame) (o : Option SegmentSettings) (m : Table) → (let entry : Entry = record { place = from; last = Some t } in p entry ≡ true) → kept p m ≡ m
    → kept p (table_learned t from f o m) ≡ table_learned t from f o m
table_learned-pass p t from f None m passes h = h
table_learned-pass p t from f (Some s) m passes h = by s.learning
  where
    by : (b : Bool) → kept p (cond b (learn s.limit t from f.src m) m) ≡ cond b (learn s.limit t from f.src m) m
    by true = learned-pass p s.limit t from f.src m passes h
    by false = h

-- what a change leaves of it: the entry that it fixes passes
abbrev pub EffectPasses : (Entry → Bool) → TableEffect → Type 0
EffectPasses p (Fixes mac place) = p (record { place = place; last = None }) ≡ true
EffectPasses p _ = Unit {0}

applied-pass : (p : Entry → Bool) (t limit : ℕ) (e : TableEffect) (m : Table) → EffectPasses p e → kept p m ≡ m → kept p (table_applied t limit e m) ≡ table_applied t limit e m
applied-pass p t limit (Fixes mac place) m passes h = by (is_full limit mac m)
  where
    entry : Entry
    entry = record { place = place; last = None }

    by : (b : Bool) → kept p (cond b m (insert m mac entry)) ≡ cond b m (insert m mac entry)
    by true = h
    by false = kept-insert p m mac entry passes h
applied-pass p t limit (Unfixes mac) m passes h = by (has_fixed mac m)
  where
    by : (b : Bool) → kept p (cond b (remove m mac) m) ≡ cond b (remove m mac) m
    by true = kept-remove p m mac h
    by false = h
applied-pass p t limit (Forgets place) m passes h = kept-again p (λ e. not (is_seen_at place e)) m h
applied-pass p t limit ForgetsAll m passes h = kept-again p is_fixed m h
applied-pass p t limit (Ages seconds) m passes h = kept-again p (is_live (nanoseconds seconds) t) m h
applied-pass p t limit (Limits new) m passes h = by (nat_lt new (len m))
  where
    by : (b : Bool) → kept p (cond b empty m) ≡ cond b empty m
    by true = kept-empty p
    by false = h
applied-pass p t limit Empties m passes h = kept-empty p
applied-pass p t limit KeepsAll m passes h = h

pub changed-pass : (p : Entry → Bool) (t vid : ℕ) (c : Change) (o : Option SegmentSettings) (m : Table) → (is_about vid c ≡ true → (s : SegmentSettings) → EffectPasses p (table_effect s c)) → kept p m ≡ m
    → kept p (table_changed t c o vid m) ≡ table_changed t c o vid m
changed-pass p t vid c None m passes h = by (is_about vid c)
  where
    by : (b : Bool) → kept p (cond b empty m) ≡ cond b empty m
    by true = kept-empty p
    by false = h
changed-pass p t vid c (Some s) m passes h = by (is_about vid c) refl
  where
    by : (b : Bool) → is_about vid c ≡ b → kept p (cond b (table_applied t s.limit (table_effect s c) m) m) ≡ cond b (table_applied t s.limit (table_effect s c) m) m
    by true about = applied-pass p t s.limit (table_effect s c) m (passes about s) h
    by false other = h

-- ---- nothing learned at a port that isn't needed

-- it isn't an entry that was learned there
abbrev sift : ℕ → Entry → Bool
sift q e = not (is_seen_at (Local q) e)

sift-fixed : (q : ℕ) (e : TableEffect) → EffectPasses (sift q) e
sift-fixed q (Fixes mac place) = refl
sift-fixed q (Unfixes mac) = tt
sift-fixed q (Forgets place) = tt
sift-fixed q ForgetsAll = tt
sift-fixed q (Ages seconds) = tt
sift-fixed q (Limits new) = tt
sift-fixed q Empties = tt
sift-fixed q KeepsAll = tt

live-empty : (o : Option BridgeSettings) (t : ℕ) (m : Table) → m ≡ empty → live_in o t m ≡ empty
live-empty None t m is = refl
live-empty (Some b) t m is = ap (kept (is_live (nanoseconds b.ageing) t)) is ∙ kept-empty (is_live (nanoseconds b.ageing) t)

pub kept-aged : (needs : Needs) (t : ℕ) (w : Own) → Kept needs w → Kept needs (aged_own t w)
kept-aged needs t w k = record {
  members = k.members;
  table = λ q other. live-pass (sift q) w.settings.bridge t w.table (k.table q other);
  absent = λ none. live-empty w.settings.bridge t w.table (k.absent none);
}

-- a station is learned at a place that the segment needs
abbrev pub FromNeeded : Needs → Place → Type 0
FromNeeded needs from = (q : ℕ) → needs.ports q ≡ false → same_place from (Local q) ≡ false

pub table-learned : (needs : Needs) (t : ℕ) (from : Place) (f : Frame) (o : Option SegmentSettings) (m : Table) → FromNeeded needs from → TableIn needs m → TableIn needs (table_learned t from f o m)
table-learned needs t from f o m place h = λ q other. table_learned-pass (sift q) t from f o m (ap not (place q other)) (h q other)

-- ---- members

abbrev AsksPorts : Needs → Effect → Type 0
AsksPorts needs (ToMembers vid port egress) = needs.ports port ≡ true
AsksPorts needs _ = Unit {0}

asks-ports : (needs : Needs) (S : Settings) (c : Change) → asks_within needs S c ≡ true → AsksPorts needs (effect c)
asks-ports needs S (AddFlood v addr tunnel) h = tt
asks-ports needs S (RemoveFlood v addr tunnel) h = tt
asks-ports needs S (Fix v mac target) h = tt
asks-ports needs S (Unfix v mac) h = tt
asks-ports needs S (SetAgeing v seconds) h = tt
asks-ports needs S (SetLearning v on) h = tt
asks-ports needs S (SetMember v port egress) h = h
asks-ports needs S (PortUp port) h = tt
asks-ports needs S (PortDown port) h = tt
asks-ports needs S (Flush v) h = tt
asks-ports needs S (AddSegment new) h = tt
asks-ports needs S (RemoveSegment v) h = tt
asks-ports needs S (SetLimit v limit) h = tt

of-members : (q : ℕ) (o : Option Members) → get (unwrap_or o empty) q ≡ option_and_then (λ (m : Members). get m q) o
of-members q (Some m) = refl
of-members q None = get-empty nat_cmp q

members-in : (needs : Needs) (vid : ℕ) (e : Effect) (p : Part) → AsksPorts needs e → MembersIn needs p.members → MembersIn needs (part_applied vid e p).members
members-in needs vid (ToFlood v change) p asks h q other = h q other
members-in needs vid (ToBridge v change) p asks h q other = h q other
members-in needs vid (ToLimit v limit) p asks h q other = h q other
members-in needs vid (ToMembers v port egress) p asks h q other = by (vid == v) (q == port) refl
  where
    by : (b c : Bool) → (q == port) ≡ c → option_and_then (λ (m : Members). get m q) (cond b (Some (member_set (unwrap_or p.members empty) port egress)) p.members) ≡ None
    by false c is = h q other
    by true true is = absurd (false≢true (sym other ∙ ap needs.ports (eqb-true q port is) ∙ asks))
    by true false is =
        get-member_set (unwrap_or p.members empty) port egress q
        ∙ ap (λ (b : Bool). cond b egress (get (unwrap_or p.members empty) q)) is
        ∙ of-members q p.members
        ∙ h q other
members-in needs vid (ToPort port up) p asks h q other = h q other
members-in needs vid (Comes new) p asks h q other = by (vid == new.vid)
  where
    by : (b : Bool) → option_and_then (λ (m : Members). get m q) (cond b (Some empty) p.members) ≡ None
    by true = get-empty nat_cmp q
    by false = h q other
members-in needs vid (Goes v) p asks h q other = by (vid == v)
  where
    by : (b : Bool) → option_and_then (λ (m : Members). get m q) (cond b None p.members) ≡ None
    by true = refl
    by false = h q other
members-in needs vid ToNothing p asks h q other = h q other

-- ---- a segment that is there stays there, until it goes

record Stands (p : Part) : Type 0 where
  pub bridge : is_some p.bridge ≡ true
  pub tunnels : is_some p.tunnels ≡ true
  pub members : is_some p.members ≡ true

stands-by : (b : Option BridgeSettings) (g : Option Segment) (m : Option Members) (s : SegmentSettings) → own_by b g m ≡ Some s → (is_some b ≡ true) × (is_some g ≡ true) × (is_some m ≡ true)
stands-by None g m s is = absurd (none-some s is)
stands-by (Some b) None m s is = absurd (none-some s is)
stands-by (Some b) (Some g) None s is = absurd (none-some s is)
stands-by (Some b) (Some g) (Some m) s is = (refl, refl, refl)

never-none : (b : Option BridgeSettings) (g : Option Segment) (m : Option Members) → is_some b ≡ true → is_some g ≡ true → is_some m ≡ true → own_by b g m ≡ None → ⊥
never-none None g m x y z none = false≢true x
never-none (Some b) None m x y z none = false≢true y
never-none (Some b) (Some g) None x y z none = false≢true z
never-none (Some b) (Some g) (Some m) x y z none = none-some _ (sym none)

mapped-there : {X : Type 0} (b : Bool) (f : X → X) (o : Option X) → is_some o ≡ true → is_some (cond b (option_map f o) o) ≡ true
mapped-there true f None h = h
mapped-there true f (Some x) h = refl
mapped-there false f o h = h

put-there : {X : Type 0} (b : Bool) (x : X) (o : Option X) → is_some o ≡ true → is_some (cond b (Some x) o) ≡ true
put-there true x o h = refl
put-there false x o h = h

flood-there : (b : Bool) (change : SegmentSettings → Entries) (whole : Option SegmentSettings) (o : Option Segment) → is_some o ≡ true → is_some (cond b (option_map_or (λ s. option_map (flooded (change s)) o) whole o) o) ≡ true
flood-there false change whole o h = h
flood-there true change None o h = h
flood-there true change (Some s) None h = h
flood-there true change (Some s) (Some g) h = refl

abbrev goes : Effect → Bool
goes (Goes v) = true
goes _ = false

stands-applied : (vid : ℕ) (e : Effect) (p : Part) → goes e ≡ false → Stands p → Stands (part_applied vid e p)
stands-applied vid (ToFlood v change) p stays h = record { bridge = h.bridge; tunnels = flood-there (vid == v) change (whole_of p) p.tunnels h.tunnels; members = h.members }
stands-applied vid (ToBridge v change) p stays h = record {
  bridge = mapped-there (vid == v) (λ (r : BridgeSettings). let rule : BridgeSettings = record (change r) { limit = r.limit } in rule) p.bridge h.bridge;
  tunnels = h.tunnels;
  members = h.members;
}
stands-applied vid (ToLimit v limit) p stays h = record {
  bridge = mapped-there (vid == v) (λ (r : BridgeSettings). let rule : BridgeSettings = record r { limit = limit } in rule) p.bridge h.bridge;
  tunnels = h.tunnels;
  members = h.members;
}
stands-applied vid (ToMembers v port egress) p stays h = record {
  bridge = h.bridge;
  tunnels = h.tunnels;
  members = put-there (vid == v) (member_set (unwrap_or p.members empty) port egress) p.members h.members;
}
stands-applied vid (ToPort port up) p stays h = record { bridge = h.bridge; tunnels = h.tunnels; members = h.members }
stands-applied vid (Comes new) p stays h = record {
  bridge = put-there (vid == new.vid) _ p.bridge h.bridge;
  tunnels = put-there (vid == new.vid) _ p.tunnels h.tunnels;
  members = put-there (vid == new.vid) _ p.members h.members;
}
stands-applied vid (Goes v) p stays h = absurd (false≢true (sym stays))
stands-applied vid ToNothing p stays h = h

goes-or : (t : ℕ) (s : SegmentSettings) (c : Change) (m : Table) → (goes (effect c) ≡ false) ⊎ (table_applied t s.limit (table_effect s c) m ≡ empty)
goes-or t s (AddFlood v addr tunnel) m = inl refl
goes-or t s (RemoveFlood v addr tunnel) m = inl refl
goes-or t s (Fix v mac target) m = inl refl
goes-or t s (Unfix v mac) m = inl refl
goes-or t s (SetAgeing v seconds) m = inl refl
goes-or t s (SetLearning v on) m = inl refl
goes-or t s (SetMember v port egress) m = inl refl
goes-or t s (PortUp port) m = inl refl
goes-or t s (PortDown port) m = inl refl
goes-or t s (Flush v) m = inl refl
goes-or t s (AddSegment new) m = inl refl
goes-or t s (RemoveSegment v) m = inr refl
goes-or t s (SetLimit v limit) m = inl refl

absent-changed : (vid t : ℕ) (c : Change) (p : Part) (m : Table) → is_about vid c ≡ true → (o : Option SegmentSettings) → whole_of p ≡ o → whole_of (part_applied vid (effect c) p) ≡ None → table_changed t c o vid m ≡ empty
absent-changed vid t c p m about None is none = ap (λ (b : Bool). cond b empty m) about
absent-changed vid t c p m about (Some s) is none = ap (λ (b : Bool). cond b (table_applied t s.limit (table_effect s c) m) m) about ∙ by (goes-or t s c m)
  where
    by : (goes (effect c) ≡ false) ⊎ (table_applied t s.limit (table_effect s c) m ≡ empty) → table_applied t s.limit (table_effect s c) m ≡ empty
    by (inr gone) = gone
    by (inl stays) =
        let h = stands-by p.bridge p.tunnels p.members s is in
        let after : Stands (part_applied vid (effect c) p) = stands-applied vid (effect c) p stays (record { bridge = h.0; tunnels = h.1; members = h.2 }) in
        let q : Part = part_applied vid (effect c) p in
        absurd (never-none q.bridge q.tunnels q.members after.bridge after.tunnels after.members none)

-- behind a change of the segment's own that is made
pub kept-changed : (vid t : ℕ) (needs : Needs) (S : Settings) (c : Change) (w : Own) → is_about vid c ≡ true → asks_within needs S c ≡ true → Kept needs w
    → (let left : Own = record { settings = part_applied vid (effect c) w.settings; table = table_changed t c (whole_of w.settings) vid w.table } in Kept needs left)
kept-changed vid t needs S c w about within k = record {
  members = members-in needs vid (effect c) w.settings (asks-ports needs S c within) k.members;
  table = λ q other. changed-pass (sift q) t vid c (whole_of w.settings) w.table (λ about s. sift-fixed q (table_effect s c)) (k.table q other);
  absent = absent-changed vid t c w.settings w.table about (whole_of w.settings) refl;
}
