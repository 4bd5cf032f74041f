-- What is sent in a segment is sent to remotes that came in: by its flood list, by its changes, or as senders of its packets.
use Rattle.std.proofs.Common.{◌≡◌, ◌∙◌, refl, sym, ap, subst, ℕ, ◌==◌, Bool, true, false, cond, not, ◌&&◌, List, [], ◌∷◌, ◌++◌, map, filter, length, Option, Some, None, Result, Ok, Err}
use Rattle.std.specs.Prelude.{IfOk, is_none}
use Rattle.std.specs.Bool.{then_some}
use Rattle.std.specs.List.{AllByRecursion, range_with_len}
use Rattle.std.specs.Option.{option_map, option_map_or}
use Rattle.std.specs.FinMap.{get}
use Rattle.std.proofs.lemmas.Bool.{false≢true, eqb-true}
use Rattle.std.proofs.lemmas.Option.{none-some, same_Some}
use Rattle.wire.specs.Address.{is_group}
use Rattle.wire.specs.declared.ether.reason.Reason.{Reason}
use Rattle.wire.specs.declared.ether.reason.Reason.TheVariants.{SamePlace, Horizon, Unreachable}
use Rattle.wire.specs.declared.ether.reason.Refused.{Refused}
use Rattle.filter_db.specs.Place.{same_place}
use Rattle.filter_db.specs.Table.{Table, kept, stands}
use Rattle.filter_db.specs.declared.entry.Entry.{Entry}
use Rattle.filter_db.specs.declared.place.Place.{Place}
use Rattle.filter_db.specs.declared.place.Place.TheVariants.{Local}
use Rattle.filter_db.proofs.TableLemmas.{kept-empty, stands-Some}
use Rattle.overlay.specs.Flood.{Entries, is_entry}
use Rattle.overlay.specs.Overlay.{flood_at, segment_of}
use Rattle.overlay.specs.Ports.{Members}
use Rattle.overlay.specs.declared.flood.remote.Remote.{Remote as Target}
use Rattle.overlay.specs.declared.underlay.segment.Segment.{Segment}
use Rattle.overlay.specs.declared.settings.change.Target.TheVariants as target
use Rattle.overlay.specs.declared.settings.change.Change.{Change}
use Rattle.overlay.specs.declared.settings.change.Change.TheVariants.{AddFlood, RemoveFlood, Fix, Unfix, SetAgeing, SetLearning, SetMember, PortUp, PortDown, Flush, AddSegment, RemoveSegment, SetLimit}
use Rattle.tunnel_learning.specs.Bridge.{Config, in_one_group, is_shut, to_place, is_local_outlet, local_places, is_remote_outlet, remote_places, place_of, or_no_outlet, toward, outlets}
use Rattle.endpoint_core.specs.Settings.{Settings, BridgeSettings, SegmentSettings, segment_at}
use Rattle.endpoint_core.specs.Effect.{Effect, ToFlood, ToBridge, ToLimit, ToMembers, ToPort, Comes, Goes, ToNothing, effect, kind_in, new_tunnels, table_effect}
use Rattle.endpoint_core.proofs.EffectLemmas.{is_to, effect-other}
use Rattle.endpoint_core.specs.Change.{is_about, refused, accepted}
use Rattle.endpoint_core.specs.State.{State as Bridges, aged, table_changed, after_change}
use Rattle.endpoint_core.specs.StateStep.{config_of, table_learned, after_frame, verdict_in}
use Rattle.endpoint_core.specs.Arrival.{Arrival}
use Rattle.endpoint_core.specs.Arrival.{came_at, came_by}
use Rattle.endpoint_core.specs.Decision.{Sent}
use Rattle.endpoint_core.specs.Event.{Input, FrameAt, Packet, Asks, Event}
use Rattle.endpoint_core.specs.Step.{State, Decided, sent_at, by_verdict, decided, opened, answer_by, bridges_after, after}
use Rattle.noninterference.specs.Alone.{is_segment}
use Rattle.noninterference.specs.Leaving.{Row}
use Rattle.noninterference.proofs.Seeing.{own_by}
use Rattle.tenants_apart.specs.Own.{Needs, Part, part_of, segment_met, is_needed, is_own_change, names_or_concerns, is_reached, IsReached, names_needed, comes_needed, brings_needed, AreBrought, own_rows}
use Rattle.tenants_apart.proofs.Changing.{part_applied, flooded, part-accepted}
use Rattle.tenants_apart.proofs.Coming.{came-from}
use Rattle.tenants_apart.proofs.Kept.{Own, owned, aged_own, live-pass, table_learned-pass, EffectPasses, changed-pass}
use Rattle.tenants_apart.proofs.Refusing.{whole_of}
use Rattle.tenants_apart.proofs.Running.{row_of, settings-after}
use Rattle.tenants_apart.proofs.Stepping.{after_came-is, came_own, owned_changed}

-- ---- what always holds

abbrev ListIn : Needs → Entries → Type 0
ListIn needs flood = AllByRecursion (λ r. needs.remotes r.addr ≡ true) flood

abbrev at_reached : Needs → Entry → Bool
at_reached needs e = is_reached needs e.place

record Reach (needs : Needs) (w : Own) : Type 0 where
  pub flood : ListIn needs (option_map_or (λ (x : Segment). x.flood) w.settings.tunnels [])
  pub table : kept (at_reached needs) w.table ≡ w.table

reach-aged : (needs : Needs) (t : ℕ) (w : Own) → Reach needs w → Reach needs (aged_own t w)
reach-aged needs t w k = record { flood = k.flood; table = live-pass (at_reached needs) w.settings.bridge t w.table k.table }

-- ---- where a frame goes

abbrev All : Needs → List Place → Type 0
All needs places = AllByRecursion (λ to. is_reached needs to ≡ true) places

all-append : (needs : Needs) (a b : List Place) → All needs a → All needs b → All needs (a ++ b)
all-append needs [] b all more = more
all-append needs (to ∷ a) b all more = (all.0, all-append needs a b all.1 more)

all-local : (needs : Needs) (q : Place → Bool) (numbers : List ℕ) → All needs (filter q (map Local numbers))
all-local needs q [] = tt
all-local needs q (n ∷ numbers) = by (q (Local n)) (all-local needs q numbers)
  where
    by : (b : Bool) → All needs (filter q (map Local numbers)) → All needs (cond b (Local n ∷ filter q (map Local numbers)) (filter q (map Local numbers)))
    by true rest = (refl, rest)
    by false rest = rest

all-remote : (needs : Needs) (q : Place → Bool) (flood : Entries) → ListIn needs flood → All needs (filter q (map place_of flood))
all-remote needs q [] within = tt
all-remote needs q (r ∷ flood) within = by (q (place_of r)) (all-remote needs q flood within.1)
  where
    by : (b : Bool) → All needs (filter q (map place_of flood)) → All needs (cond b (place_of r ∷ filter q (map place_of flood)) (filter q (map place_of flood)))
    by true rest = (within.0, rest)
    by false rest = rest

all-some : (needs : Needs) (places : List Place) → All needs places → IfOk (or_no_outlet places) (All needs)
all-some needs [] all = tt
all-some needs (to ∷ places) all = all

all-known : (needs : Needs) (c : Config) (from to : Place) → is_reached needs to ≡ true → IfOk (to_place c from to) (All needs)
all-known needs c from to reached = by (same_place to from) (in_one_group c from to) (is_shut c to)
  where
    by : (x y z : Bool) → IfOk (cond x (Err SamePlace) (cond y (Err Horizon) (cond z (Err Unreachable) (Ok (to ∷ []))))) (All needs)
    by true y z = tt
    by false true z = tt
    by false false true = tt
    by false false false = (reached, tt)

-- a station stands at a place that passes
stands-reached : (needs : Needs) (m : Table) → kept (at_reached needs) m ≡ m → (mac : List ℕ) (to : Place) → stands mac m ≡ Some to → is_reached needs to ≡ true
stands-reached needs m h mac to is = by (get m mac) refl is
  where
    passed : (b : Bool) (e : Entry) → Some e.place ≡ then_some b e.place → b ≡ true
    passed true e same = refl
    passed false e same = absurd (none-some e.place (sym same))

    by : (o : Option Entry) → get m mac ≡ o → option_map (λ (e : Entry). e.place) o ≡ Some to → is_reached needs to ≡ true
    by None found there = absurd (none-some to there)
    by (Some e) found there =
        let kept_is : stands mac (kept (at_reached needs) m) ≡ then_some (at_reached needs e) e.place = stands-Some (at_reached needs) m mac e found in
        let here : stands mac m ≡ Some e.place = ap (option_map (λ (x : Entry). x.place)) found in
        ap (is_reached needs) (sym (same_Some e.place to there)) ∙ passed (at_reached needs e) e (sym here ∙ sym (ap (stands mac) h) ∙ kept_is)

all-toward : (needs : Needs) (c : Config) (from : Place) (o : Option Place) → ListIn needs c.flood → ((to : Place) → o ≡ Some to → is_reached needs to ≡ true) → IfOk (toward c from o) (All needs)
all-toward needs c from None flood known =
    all-some needs (local_places c from ++ remote_places c from)
    (all-append needs (local_places c from) (remote_places c from) (all-local needs (is_local_outlet c from) (range_with_len 1 (length c.up))) (all-remote needs (is_remote_outlet c from) c.flood flood))
all-toward needs c from (Some to) flood known = all-known needs c from to (known to refl)

-- ---- what is answered

all-sent : (needs : Needs) (S : Settings) (x : Arrival) (places : List Place) → All needs places → AllByRecursion (λ (o : Sent). is_reached needs o.place ≡ true) (map (sent_at S x.vid x.frame) places)
all-sent needs S x [] all = tt
all-sent needs S x (place ∷ places) all = (all.0, all-sent needs S x places all.1)

verdict-reached : (needs : Needs) (S : Settings) (x : Arrival) (r : Result (List Place) Reason) → IfOk r (All needs) → IsReached needs (Decided (by_verdict S x r))
verdict-reached needs S x (Ok places) all = all-sent needs S x places all
verdict-reached needs S x (Err reason) all = tt

flood-of : (needs : Needs) (p : Part) (s : SegmentSettings) → whole_of p ≡ Some s → ListIn needs (option_map_or (λ (x : Segment). x.flood) p.tunnels []) → ListIn needs s.flood
flood-of needs p s is h = by p.bridge p.tunnels p.members is h
  where
    by : (b : Option BridgeSettings) (g : Option Segment) (m : Option Members) → own_by b g m ≡ Some s → ListIn needs (option_map_or (λ (x : Segment). x.flood) g []) → ListIn needs s.flood
    by None g m is h = absurd (none-some s is)
    by (Some b) None m is h = absurd (none-some s is)
    by (Some b) (Some g) None is h = absurd (none-some s is)
    by (Some b) (Some g) (Some m) is h = subst (λ (x : SegmentSettings). ListIn needs x.flood) (same_Some _ s is) h

-- a frame comes from a place that passes, or it isn't the segment's own
came-reached : (vid t : ℕ) (needs : Needs) (B : Bridges) (x : Arrival) → (vid == x.vid) ≡ true → Reach needs (owned vid needs B) → is_reached needs x.from ≡ true → IsReached needs (Decided (decided t B (Ok x)))
came-reached vid t needs B x own k from = by (segment_at B.settings x.vid) refl
  where
    here : Reach needs (owned x.vid needs B)
    here = subst (λ (v : ℕ). Reach needs (owned v needs B)) (eqb-true vid x.vid own) k

    m : Table
    m = (after_frame t x.vid x.from x.frame B).tables x.vid

    passes : kept (at_reached needs) m ≡ m
    passes = learned (x.vid == x.vid)
      where
        learned : (b : Bool) → (let left : Table = cond b (table_learned t x.from x.frame (segment_at B.settings x.vid) (B.tables x.vid)) (B.tables x.vid) in kept (at_reached needs) left ≡ left)
        learned true = table_learned-pass (at_reached needs) t x.from x.frame (segment_at B.settings x.vid) (B.tables x.vid) from here.table
        learned false = here.table

    by : (o : Option SegmentSettings) → segment_at B.settings x.vid ≡ o → IsReached needs (Decided (by_verdict B.settings x (verdict_in B.settings.ports o x.from x.frame m)))
    by None is = tt
    by (Some s) is =
        let c = config_of B.settings.ports s in
        verdict-reached needs B.settings x (outlets c x.from x.frame m)
        (all-toward needs c x.from (cond (is_group x.frame.dst) None (stands x.frame.dst m)) (flood-of needs (part_of x.vid needs B.settings) s is here.flood) (known (is_group x.frame.dst)))
      where
        known : (b : Bool) (to : Place) → (let found : Option Place = cond b None (stands x.frame.dst m) in found) ≡ Some to → is_reached needs to ≡ true
        known true to found = absurd (none-some to found)
        known false to found = stands-reached needs m passes x.frame.dst to found

-- ---- what an event leaves

came-reach : (vid t : ℕ) (needs : Needs) (r : Result Arrival Refused) (w : Own) → ((x : Arrival) → r ≡ Ok x → (vid == x.vid) ≡ true → is_reached needs x.from ≡ true) → Reach needs w → Reach needs (came_own vid t r w)
came-reach vid t needs (Err refused) w from k = k
came-reach vid t needs (Ok x) w from k = record { flood = k.flood; table = by (vid == x.vid) refl }
  where
    by : (b : Bool) → (vid == x.vid) ≡ b → (let left : Table = cond b (table_learned t x.from x.frame (whole_of w.settings) w.table) w.table in kept (at_reached needs) left ≡ left)
    by true own = table_learned-pass (at_reached needs) t x.from x.frame (whole_of w.settings) w.table (from x refl own) k.table
    by false other = k.table

-- a flood list stays within
abbrev FloodStays : Needs → Effect → Type 0
FloodStays needs (ToFlood v change) = (s : SegmentSettings) → ListIn needs s.flood → ListIn needs (change s)
FloodStays needs _ = Unit {0}

list-append : (needs : Needs) (a : Entries) (r : Target) → ListIn needs a → needs.remotes r.addr ≡ true → ListIn needs (a ++ r ∷ [])
list-append needs [] r all here = (here, tt)
list-append needs (x ∷ a) r all here = (all.0, list-append needs a r all.1 here)

list-filter : (needs : Needs) (q : Target → Bool) (a : Entries) → ListIn needs a → ListIn needs (filter q a)
list-filter needs q [] all = tt
list-filter needs q (x ∷ a) all = by (q x) (list-filter needs q a all.1)
  where
    by : (b : Bool) → ListIn needs (filter q a) → ListIn needs (cond b (x ∷ filter q a) (filter q a))
    by true rest = (all.0, rest)
    by false rest = rest

flood-stays : (needs : Needs) (c : Change) → names_needed needs c ≡ true → FloodStays needs (effect c)
flood-stays needs (AddFlood v addr tunnel) named = λ s h. list-append needs s.flood (record { tunnel = kind_in s.tunnels tunnel; addr = addr }) h named
flood-stays needs (RemoveFlood v addr tunnel) named = λ s h. list-filter needs (λ entry. not (is_entry (kind_in s.tunnels tunnel) addr entry)) s.flood h
flood-stays needs (Fix v mac place) named = tt
flood-stays needs (Unfix v mac) named = tt
flood-stays needs (SetAgeing v seconds) named = tt
flood-stays needs (SetLearning v on) named = tt
flood-stays needs (SetMember v port egress) named = tt
flood-stays needs (PortUp port) named = tt
flood-stays needs (PortDown port) named = tt
flood-stays needs (Flush v) named = tt
flood-stays needs (AddSegment new) named = tt
flood-stays needs (RemoveSegment v) named = tt
flood-stays needs (SetLimit v limit) named = tt

flood-applied : (vid : ℕ) (needs : Needs) (e : Effect) (p : Part) → (is_to vid e ≡ true → FloodStays needs e) → ListIn needs (option_map_or (λ (x : Segment). x.flood) p.tunnels []) → ListIn needs (option_map_or (λ (x : Segment). x.flood) (part_applied vid e p).tunnels [])
flood-applied vid needs (ToFlood v change) p stays h = by (vid == v) refl (whole_of p) refl p.tunnels h
  where
    by : (b : Bool) → (vid == v) ≡ b → (o : Option SegmentSettings) → whole_of p ≡ o → (g : Option Segment) → ListIn needs (option_map_or (λ (x : Segment). x.flood) g [])
        → ListIn needs (option_map_or (λ (x : Segment). x.flood) (cond b (option_map_or (λ s. option_map (flooded (change s)) g) o g) g) [])
    by false to o is g own = own
    by true to None is g own = own
    by true to (Some s) is None own = tt
    by true to (Some s) is (Some g) own = stays to s (flood-of needs p s is h)
flood-applied vid needs (ToBridge v change) p stays h = h
flood-applied vid needs (ToLimit v limit) p stays h = h
flood-applied vid needs (ToMembers v port egress) p stays h = h
flood-applied vid needs (ToPort port up) p stays h = h
flood-applied vid needs (Comes new) p stays h = by (vid == new.vid)
  where
    by : (b : Bool) → ListIn needs (option_map_or (λ (x : Segment). x.flood) (cond b (Some (segment_of (new_tunnels new))) p.tunnels) [])
    by true = tt
    by false = h
flood-applied vid needs (Goes v) p stays h = by (vid == v)
  where
    by : (b : Bool) → ListIn needs (option_map_or (λ (x : Segment). x.flood) (cond b None p.tunnels) [])
    by true = tt
    by false = h
flood-applied vid needs ToNothing p stays h = h

-- a fixed entry passes
passes-effect : (needs : Needs) (s : SegmentSettings) (c : Change) → names_needed needs c ≡ true → EffectPasses (at_reached needs) (table_effect s c)
passes-effect needs s (AddFlood v addr tunnel) named = tt
passes-effect needs s (RemoveFlood v addr tunnel) named = tt
passes-effect needs s (Fix v mac (target.Local port)) named = refl
passes-effect needs s (Fix v mac (target.Remote addr tunnel)) named = named
passes-effect needs s (Unfix v mac) named = tt
passes-effect needs s (SetAgeing v seconds) named = tt
passes-effect needs s (SetLearning v on) named = tt
passes-effect needs s (SetMember v port (Some egress)) named = tt
passes-effect needs s (SetMember v port None) named = tt
passes-effect needs s (PortUp port) named = tt
passes-effect needs s (PortDown port) named = tt
passes-effect needs s (Flush v) named = tt
passes-effect needs s (AddSegment new) named = tt
passes-effect needs s (RemoveSegment v) named = tt
passes-effect needs s (SetLimit v limit) named = tt

-- a change of a port names no remote
port-named : (needs : Needs) (c : Change) → is_needed needs (effect c) ≡ false → names_needed needs c ≡ true
port-named needs (PortUp port) other = refl
port-named needs (PortDown port) other = refl
port-named needs (AddFlood v addr tunnel) other = absurd (false≢true (sym other))
port-named needs (RemoveFlood v addr tunnel) other = refl
port-named needs (Fix v mac place) other = absurd (false≢true (sym other))
port-named needs (Unfix v mac) other = refl
port-named needs (SetAgeing v seconds) other = refl
port-named needs (SetLearning v on) other = refl
port-named needs (SetMember v port egress) other = refl
port-named needs (Flush v) other = refl
port-named needs (AddSegment new) other = refl
port-named needs (RemoveSegment v) other = refl
port-named needs (SetLimit v limit) other = refl

reach-change : (vid t : ℕ) (needs : Needs) (B : Bridges) (c : Change) → (is_own_change vid needs c ≡ true → names_needed needs c ≡ true) → Reach needs (owned vid needs B) → Reach needs (owned vid needs (after_change t c B))
reach-change vid t needs B c brings k = subst (Reach needs) (sym (owned_changed vid t needs c B)) (by (is_none (refused B.settings c)) refl)
  where
    named : is_about vid c ≡ true → names_needed needs c ≡ true
    named about = choose (is_needed needs (effect c)) refl
      where
        choose : (b : Bool) → is_needed needs (effect c) ≡ b → names_needed needs c ≡ true
        choose true needed = brings ((λ i. about i && needed i))
        choose false other = port-named needs c other

    to_own : is_to vid (effect c) ≡ true → is_about vid c ≡ true
    to_own to = choose (is_about vid c) refl
      where
        choose : (b : Bool) → is_about vid c ≡ b → b ≡ true
        choose true about = refl
        choose false other = sym (effect-other vid c other) ∙ to

    by : (b : Bool) → is_none (refused B.settings c) ≡ b
        → (let left : Own = record { settings = part_of vid needs (cond b (accepted B.settings c) B.settings); table = cond b (table_changed t c (segment_at B.settings vid) vid (B.tables vid)) (B.tables vid) } in Reach needs left)
    by true taken = record {
      flood = subst (λ (p : Part). ListIn needs (option_map_or (λ (x : Segment). x.flood) p.tunnels [])) (sym (part-accepted vid needs B.settings c taken))
          (flood-applied vid needs (effect c) (part_of vid needs B.settings) (λ to. flood-stays needs c (named (to_own to))) k.flood);
      table = changed-pass (at_reached needs) t vid c (segment_at B.settings vid) (B.tables vid) (λ about s. passes-effect needs s c (named about)) k.table;
    }
    by false taken = k

-- where a frame of the segment's own came from
from-port : (vid : ℕ) (needs : Needs) (B : Bridges) (port original : ℕ) (b : List ℕ) (x : Arrival) → came_at B.settings.ports B.settings.overlay port original b ≡ Ok x → (vid == x.vid) ≡ true → is_reached needs x.from ≡ true
from-port vid needs B port original b x is own =
    ap (is_reached needs) (came-from vid B.settings.ports B.settings.overlay port original b x is (ap (λ (r : Result Arrival Refused). is_segment vid (segment_met r)) is ∙ own)).0

from-tunnel : (vid : ℕ) (needs : Needs) (B : Bridges) (original : ℕ) (b : List ℕ) → (names_or_concerns vid needs B.settings (Packet original b) ≡ true → brings_needed needs B.settings (Packet original b) ≡ true)
    → (x : Arrival) → came_by B.settings.overlay original b ≡ Ok x → (vid == x.vid) ≡ true → is_reached needs x.from ≡ true
from-tunnel vid needs B original b brings x is own =
    sym (ap (comes_needed needs) is) ∙ brings (ap (λ (r : Result Arrival Refused). is_segment vid (segment_met r)) is ∙ own)

reach-after : (vid t : ℕ) (needs : Needs) (B : Bridges) (i : Input) → (names_or_concerns vid needs B.settings i ≡ true → brings_needed needs B.settings i ≡ true) → Reach needs (owned vid needs B) → Reach needs (owned vid needs (bridges_after t B i))
reach-after vid t needs B (FrameAt port original b) brings k =
    let came = came_at B.settings.ports B.settings.overlay port original b in
    subst (Reach needs) (sym (after_came-is vid t needs came B)) (came-reach vid t needs came (owned vid needs B) (from-port vid needs B port original b) k)
reach-after vid t needs B (Packet original b) brings k =
    let came = came_by B.settings.overlay original b in
    subst (Reach needs) (sym (after_came-is vid t needs came B)) (came-reach vid t needs came (owned vid needs B) (from-tunnel vid needs B original b brings) k)
reach-after vid t needs B (Asks c) brings k = reach-change vid t needs B c brings k

-- ---- all events

came-answered : (vid t : ℕ) (needs : Needs) (B : Bridges) (r : Result Arrival Refused) → ((x : Arrival) → r ≡ Ok x → (vid == x.vid) ≡ true → is_reached needs x.from ≡ true) → is_segment vid (segment_met r) ≡ true → Reach needs (owned vid needs B) → IsReached needs (Decided (decided t B r))
came-answered vid t needs B (Err refused) from own k = tt
came-answered vid t needs B (Ok x) from own k = came-reached vid t needs B x own k (from x refl own)

answer-reached : (vid t : ℕ) (needs : Needs) (B : Bridges) (i : Input) → (names_or_concerns vid needs B.settings i ≡ true → brings_needed needs B.settings i ≡ true) → names_or_concerns vid needs B.settings i ≡ true → Reach needs (owned vid needs B) → IsReached needs (answer_by t B i)
answer-reached vid t needs B (FrameAt port original b) brings own k = came-answered vid t needs B (came_at B.settings.ports B.settings.overlay port original b) (from-port vid needs B port original b) own k
answer-reached vid t needs B (Packet original b) brings own k = came-answered vid t needs B (came_by B.settings.overlay original b) (from-tunnel vid needs B original b brings) own k
answer-reached vid t needs B (Asks c) brings own k = tt

reached-from : (vid : ℕ) (needs : Needs) (s : State) (es : List Event) → Reach needs (owned vid needs s.bridges) → AreBrought vid needs s.bridges.settings es → AllByRecursion (λ (row : Row). IsReached needs row.reply) (own_rows vid needs s es)
reached-from vid needs s [] k brought = tt
reached-from vid needs s (e ∷ es) k brought =
    by (names_or_concerns vid needs s.bridges.settings e.input) refl
    (reached-from vid needs (after s e) es
    (reach-aged needs e.at (owned vid needs (bridges_after e.at (aged e.at s.bridges) e.input)) (reach-after vid e.at needs (aged e.at s.bridges) e.input brought.0 (reach-aged needs e.at (owned vid needs s.bridges) k)))
    (subst (λ (S : Settings). AreBrought vid needs S es) (sym (settings-after s e)) brought.1))
  where
    by : (b : Bool) → names_or_concerns vid needs s.bridges.settings e.input ≡ b → AllByRecursion (λ (row : Row). IsReached needs row.reply) (own_rows vid needs (after s e) es)
        → AllByRecursion (λ (row : Row). IsReached needs row.reply) (cond b (row_of s e ∷ own_rows vid needs (after s e) es) (own_rows vid needs (after s e) es))
    by true own rest = (answer-reached vid e.at needs (aged e.at s.bridges) e.input brought.0 own (reach-aged needs e.at (owned vid needs s.bridges) k), rest)
    by false other rest = rest

pub all-reached : (vid : ℕ) (needs : Needs) (S : Settings) (es : List Event) → AllByRecursion (λ r. needs.remotes r.addr ≡ true) (flood_at S.overlay vid) → AreBrought vid needs S es
    → AllByRecursion (λ (row : Row). IsReached needs row.reply) (own_rows vid needs (opened S) es)
all-reached vid needs S es flood brought = reached-from vid needs (opened S) es (record { flood = flood; table = kept-empty (at_reached needs) }) brought
