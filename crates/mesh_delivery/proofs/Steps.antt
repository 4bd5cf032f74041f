-- What an endpoint sends in one step.
use Rattle.std.proofs.Common.{◌≡◌, ℕ, ◌+◌, ◌≤◌, Bool, true, false, cond, ◌&&◌, refl, sym, ap, ◌∙◌, subst, Option, Some, None, Result, Ok, Err, List, [], ◌∷◌, map, arith}
use Rattle.std.specs.Prelude.{is_some, ◌==◌, IsTrue, IfOk}
use Rattle.std.specs.Option.{option_map_or}
use Rattle.std.specs.List.{list_all, count_by, AllByRecursion}
use Rattle.std.proofs.lemmas.Bool.{false≢true, eqb-true, eq-eqb, and_parts}
use Rattle.wire.specs.Frame.{Frame}
use Rattle.wire.specs.declared.ether.reason.Reason.{Reason}
use Rattle.wire.specs.declared.ether.reason.Refused.{Refused}
use Rattle.wire.specs.Addr.{same_kind}
use Rattle.wire.specs.declared.ip_udp.addr.Addr.{Addr}
use Rattle.wire.specs.declared.ip_udp.addr.Tunnel.{Tunnel}
use Rattle.wire.specs.declared.ip_udp.addr.Tunnel.TheVariants.{Vxlan, Geneve}
use Rattle.overlay.specs.Flood.{Entries, has_family}
use Rattle.filter_db.specs.declared.place.Place.{Place}
use Rattle.filter_db.specs.declared.place.Place.TheVariants.{Local, Remote}
use Rattle.filter_db.specs.Table.{Table, stands}
use Rattle.overlay.specs.Ports.{Ports}
use Rattle.overlay.specs.declared.underlay.settings.Underlay.{Underlay}
use Rattle.overlay.specs.declared.underlay.tunnels.SegmentTunnel.{SegmentTunnel}
use Rattle.overlay.specs.Overlay.{Overlay, flood_at, tunnel_at}
use Rattle.overlay.specs.UnderlaySettings.{own, is_own}
use Rattle.overlay.specs.Tunnels.{of_kind}
use Rattle.tunnel_learning.specs.Bridge.{group_of, in_one_group, outlets, place_of}
use Rattle.overlay.specs.Rules.{MeetsRules}
use Rattle.overlay.specs.Settings.{Settings as Told}
use Rattle.endpoint_core.specs.Opened.{settings_told}
use Rattle.endpoint_core.specs.Settings.{Settings, SegmentSettings, segment_at}
use Rattle.endpoint_core.specs.Sound.{reaches, is_reached, is_reached_if, AreReached}
use Rattle.endpoint_core.specs.State.{State as Bridges, aged}
use Rattle.endpoint_core.specs.StateStep.{group_in, config_of, can_leave, after_frame, verdict_in, verdict}
use Rattle.endpoint_core.proofs.StepLemmas.{outlets-leave}
use Rattle.endpoint_core.specs.Arrival.{Arrival}
use Rattle.endpoint_core.specs.Arrival.{came_at, came_by, emitted}
use Rattle.endpoint_core.specs.Decision.{Sent}
use Rattle.endpoint_core.specs.Event.{Event, frame_at, packet_at}
use Rattle.endpoint_core.specs.Step.{State, opened, sent_at, by_verdict, decided, answer, state_after}
use Rattle.mesh_delivery.specs.Full.{AreOneGroup}
use Rattle.mesh_delivery.specs.Mesh.{outcomes_of}
use Rattle.mesh_delivery.specs.Offspring.{IsLocal, is_remote_of}
use Rattle.mesh_delivery.proofs.Counting.{how_many, how_many-count}
use Rattle.mesh_delivery.proofs.Wire.{came_by-arrived}
use Rattle.mesh_delivery.proofs.Places.{places_of, is_local_at, outlets-local, outlets-remote, outlets-back, outlets-far}
use Rattle.mesh_delivery.proofs.Keeping.{is-of, reached}
use Rattle.mesh_delivery.proofs.Reached.{Knows, Knows-aged, Knows-frame, Knows-opened, Knows-run, came-reached}

-- ---- the places of a verdict

verdict-local : (ports : Ports) (o : Option SegmentSettings) (from : Place) (f : Frame) (m : Table) (p : ℕ) → how_many (is_local_at p) (places_of (verdict_in ports o from f m)) ≤ 1
verdict-local ports None from f m p = omega arith
verdict-local ports (Some s) from f m p = outlets-local (config_of ports s) from f m p

verdict-remote : (ports : Ports) (o : Option SegmentSettings) (from : Place) (f : Frame) (m : Table) (U : Underlay) → ((s : SegmentSettings) → o ≡ Some s → how_many (λ r. is_own U r.addr) s.flood ≤ 1) → how_many (is_remote_of U) (places_of (verdict_in ports o from f m)) ≤ 1
verdict-remote ports None from f m U once = omega arith
verdict-remote ports (Some s) from f m U once = outlets-remote (config_of ports s) from f m U (once s refl)

verdict-back : (ports : Ports) (o : Option SegmentSettings) (p : ℕ) (f : Frame) (m : Table) → how_many (is_local_at p) (places_of (verdict_in ports o (Local p) f m)) ≡ 0
verdict-back ports None p f m = refl
verdict-back ports (Some s) p f m = outlets-back (config_of ports s) p f m

-- ---- one horizon group

group_is : (ports : Ports) (s : SegmentSettings) (kind : Tunnel) → group_of (config_of ports s) kind ≡ group_in kind s.tunnels
group_is ports s Vxlan = refl
group_is ports s Geneve = refl

group-one : (tunnels : List SegmentTunnel) (group : ℕ) (kind : Tunnel) → list_all (λ t. t.group == group) tunnels ≡ true → is_some (of_kind kind tunnels) ≡ true → group_in kind tunnels ≡ group
group-one [] group kind all there = absurd (false≢true there)
group-one (t ∷ tunnels) group kind all there =
    let both = and_parts (t.group == group) (list_all (λ t. t.group == group) tunnels) all in
    by (same_kind t.kind kind) (eqb-true t.group group both.0) (group-one tunnels group kind both.1) there
  where
    by : (b : Bool) → t.group ≡ group → (is_some (of_kind kind tunnels) ≡ true → group_in kind tunnels ≡ group) → is_some (cond b (Some t) (of_kind kind tunnels)) ≡ true → option_map_or (λ (x : SegmentTunnel). x.group) (cond b (Some t) (of_kind kind tunnels)) 0 ≡ group
    by true own rest there = own
    by false own rest there = rest there

left-of : (a b : Bool) → a && b ≡ true → a ≡ true
left-of true b h = refl
left-of false b h = h

module _ (ports : Ports) (S : Settings) (vid : ℕ) (s : SegmentSettings) (is : segment_at S vid ≡ Some s) (group : AreOneGroup s.tunnels) where
  group-reached : (kind : Tunnel) (addr : Addr) → reaches S.overlay vid kind addr ≡ true → group_of (config_of ports s) kind ≡ group.0
  group-reached kind addr h =
      group_is ports s kind
      ∙ group-one s.tunnels group.0 kind group.1 (ap is_some (sym ((is-of S vid s is).tunnels kind)) ∙ left-of (is_some (tunnel_at S.overlay vid kind)) (has_family (own S.overlay.underlay) addr) h)

  same-group : (k l : Tunnel) (a b : Addr) → reaches S.overlay vid k a ≡ true → reaches S.overlay vid l b ≡ true → in_one_group (config_of ports s) (Remote k a) (Remote l b) ≡ true
  same-group k l a b h g = eq-eqb _ _ (group-reached k a h ∙ sym (group-reached l b g))

  flood-group : (k : Tunnel) (a : Addr) (flood : Entries) → reaches S.overlay vid k a ≡ true → list_all (reached S.overlay vid) flood ≡ true → AllByRecursion (λ r. in_one_group (config_of ports s) (Remote k a) (place_of r) ≡ true) flood
  flood-group k a [] h all = tt
  flood-group k a (r ∷ flood) h all =
      let both = and_parts (reached S.overlay vid r) (list_all (reached S.overlay vid) flood) all in
      (same-group k r.tunnel a r.addr h both.0, flood-group k a flood h both.1)

  outlets-known : (k : Tunnel) (a : Addr) (f : Frame) (m : Table) → reaches S.overlay vid k a ≡ true → list_all (reached S.overlay vid) s.flood ≡ true → AreReached S.overlay vid m → AllByRecursion IsLocal (places_of (outlets (config_of ports s) (Remote k a) f m))
  outlets-known k a f m h flood known =
      outlets-far (config_of ports s) (Remote k a) f m (flood-group k a s.flood h flood) at
    where
      at : (to : Place) → stands f.dst m ≡ Some to → (kind : Tunnel) (addr : Addr) → to ≡ Remote kind addr → in_one_group (config_of ports s) (Remote k a) to ≡ true
      at to stood kind addr is_remote =
          ap (in_one_group (config_of ports s) (Remote k a)) is_remote
          ∙ same-group k kind a addr h (ap (is_reached_if S.overlay vid) (sym (stood ∙ ap Some is_remote)) ∙ known f.dst)

-- a frame that came by a tunnel goes to local places alone
verdict-far : (S : Settings) (vid : ℕ) (o : Option SegmentSettings) (k : Tunnel) (a : Addr) (f : Frame) (m : Table) → segment_at S vid ≡ o → ((s : SegmentSettings) → o ≡ Some s → AreOneGroup s.tunnels) → list_all (reached S.overlay vid) (flood_at S.overlay vid) ≡ true → reaches S.overlay vid k a ≡ true
    → AreReached S.overlay vid m → AllByRecursion IsLocal (places_of (verdict_in S.ports o (Remote k a) f m))
verdict-far S vid None k a f m is groups flood h known = tt
verdict-far S vid (Some s) k a f m is groups flood h known =
    outlets-known S.ports S vid s is (groups s refl) k a f m h (ap (list_all (reached S.overlay vid)) (sym (is-of S vid s is).flood) ∙ flood) known

-- ---- where a frame can leave

of-verdict : (S : Settings) (vid : ℕ) (r : Result (List Place) Reason) → IfOk r (λ places. IsTrue (list_all (can_leave S vid) places)) → list_all (can_leave S vid) (places_of r) ≡ true
of-verdict S vid (Ok places) h = h
of-verdict S vid (Err reason) h = refl

verdict-leave : (S : Settings) (vid : ℕ) (o : Option SegmentSettings) (from : Place) (f : Frame) (m : Table) → segment_at S vid ≡ o → list_all (reached S.overlay vid) (flood_at S.overlay vid) ≡ true → AreReached S.overlay vid m
    → list_all (can_leave S vid) (places_of (verdict_in S.ports o from f m)) ≡ true
verdict-leave S vid None from f m is flood known = refl
verdict-leave S vid (Some s) from f m is flood known =
    let parts = is-of S vid s is in
    of-verdict S vid (outlets (config_of S.ports s) from f m) (outlets-leave S vid s parts.members from f m (ap (list_all (reached S.overlay vid)) (sym parts.flood) ∙ flood) known)

-- ---- what is sent

outcomes-verdict : (S : Settings) (x : Arrival) (r : Result (List Place) Reason) → (by_verdict S x r).outcomes ≡ map (sent_at S x.vid x.frame) (places_of r)
outcomes-verdict S x (Ok places) = refl
outcomes-verdict S x (Err reason) = refl

map-places : (test : Place → Bool) (S : Settings) (vid : ℕ) (f : Frame) (places : List Place) → how_many (λ o. test o.place) (map (sent_at S vid f) places) ≡ how_many test places
map-places test S vid f [] = refl
map-places test S vid f (p ∷ places) = ap (λ (n : ℕ). cond (test p) 1 0 + n) (map-places test S vid f places)

map-each : (S : Settings) (vid : ℕ) (f : Frame) (places : List Place) → AllByRecursion (λ o. o.sent ≡ emitted S.ports S.overlay vid f o.place) (map (sent_at S vid f) places)
map-each S vid f [] = tt
map-each S vid f (p ∷ places) = (refl, map-each S vid f places)

map-local : (S : Settings) (vid : ℕ) (f : Frame) (places : List Place) → AllByRecursion IsLocal places → AllByRecursion (λ o. IsLocal o.place) (map (sent_at S vid f) places)
map-local S vid f [] h = tt
map-local S vid f (p ∷ places) h = (h.0, map-local S vid f places h.1)

map-leave : (S : Settings) (vid : ℕ) (f : Frame) (places : List Place) → list_all (can_leave S vid) places ≡ true → AllByRecursion (λ o. can_leave S vid o.place ≡ true) (map (sent_at S vid f) places)
map-leave S vid f [] h = tt
map-leave S vid f (p ∷ places) h = let both = and_parts (can_leave S vid p) (list_all (can_leave S vid) places) h in (both.0, map-leave S vid f places both.1)

-- of a frame that came to a segment of an endpoint with settings S: each outcome is what is emitted, at most one for each port
pub record Sends (S : Settings) (x : Arrival) (sent : List Sent) : Type 0 where
  pub each : AllByRecursion (λ o. o.sent ≡ emitted S.ports S.overlay x.vid x.frame o.place) sent
  pub locals : (p : ℕ) → how_many (λ o. is_local_at p o.place) sent ≤ 1
  pub remotes : (U : Underlay) → ((s : SegmentSettings) → segment_at S x.vid ≡ Some s → how_many (λ r. is_own U r.addr) s.flood ≤ 1) → how_many (λ o. is_remote_of U o.place) sent ≤ 1
  pub back : (p : ℕ) → x.from ≡ Local p → how_many (λ o. is_local_at p o.place) sent ≡ 0

-- what came to a segment by an event
abbrev table_for : ℕ → Bridges → Arrival → Table
table_for t B x = (after_frame t x.vid x.from x.frame B).tables x.vid

abbrev places_for : ℕ → Bridges → Arrival → List Place
places_for t B x = places_of (verdict_in B.settings.ports (segment_at B.settings x.vid) x.from x.frame (table_for t B x))

outcomes-for : (t : ℕ) (B : Bridges) (x : Arrival) → (decided t B (Ok x)).outcomes ≡ map (sent_at B.settings x.vid x.frame) (places_for t B x)
outcomes-for t B x = outcomes-verdict B.settings x (verdict t x.vid x.from x.frame B)

pub sends : (t : ℕ) (B : Bridges) (x : Arrival) → Sends B.settings x (decided t B (Ok x)).outcomes
sends t B x = subst (Sends B.settings x) (sym (outcomes-for t B x)) (record {
  each = map-each B.settings x.vid x.frame places;
  locals = λ p. subst (λ (n : ℕ). n ≤ 1) (sym (counted (is_local_at p))) (verdict-local B.settings.ports o x.from x.frame m p);
  remotes = λ U once. subst (λ (n : ℕ). n ≤ 1) (sym (counted (is_remote_of U))) (verdict-remote B.settings.ports o x.from x.frame m U once);
  back = λ p from. counted (is_local_at p) ∙ ap (λ (q : Place). how_many (is_local_at p) (places_of (verdict_in B.settings.ports o q x.frame m))) from ∙ verdict-back B.settings.ports o p x.frame m;
})
  where
    o : Option SegmentSettings
    o = segment_at B.settings x.vid

    m : Table
    m = table_for t B x

    places : List Place
    places = places_for t B x

    counted : (test : Place → Bool) → how_many (λ y. test y.place) (map (sent_at B.settings x.vid x.frame) places) ≡ how_many test places
    counted test = map-places test B.settings x.vid x.frame places

-- by places where it can leave
pub sends-leaving : (t : ℕ) (B : Bridges) (x : Arrival) → Knows B → is_reached B.settings.overlay x.vid x.from ≡ true → AllByRecursion (λ o. can_leave B.settings x.vid o.place ≡ true) (decided t B (Ok x)).outcomes
sends-leaving t B x knows reached_it =
    subst (AllByRecursion (λ (o : Sent). can_leave B.settings x.vid o.place ≡ true)) (sym (outcomes-for t B x))
    (map-leave B.settings x.vid x.frame (places_for t B x)
    (verdict-leave B.settings x.vid (segment_at B.settings x.vid) x.from x.frame (table_for t B x) refl (knows.flood x.vid) ((Knows-frame t x.vid x.from x.frame B reached_it knows).tables x.vid)))

-- what came by a tunnel goes to local places alone
pub sends-locally : (t : ℕ) (B : Bridges) (x : Arrival) (k : Tunnel) (a : Addr) → Knows B → x.from ≡ Remote k a → is_reached B.settings.overlay x.vid x.from ≡ true → ((s : SegmentSettings) → segment_at B.settings x.vid ≡ Some s → AreOneGroup s.tunnels)
    → AllByRecursion (λ o. IsLocal o.place) (decided t B (Ok x)).outcomes
sends-locally t B x k a knows from reached_it groups =
    subst (AllByRecursion (λ (o : Sent). IsLocal o.place)) (sym (outcomes-for t B x)) (map-local B.settings x.vid x.frame (places_for t B x)
    (subst (λ (q : Place). AllByRecursion IsLocal (places_of (verdict_in B.settings.ports (segment_at B.settings x.vid) q x.frame (table_for t B x)))) (sym from)
    (verdict-far B.settings x.vid (segment_at B.settings x.vid) k a x.frame (table_for t B x) refl groups (knows.flood x.vid)
    (ap (is_reached B.settings.overlay x.vid) (sym from) ∙ reached_it)
    ((Knows-frame t x.vid x.from x.frame B reached_it knows).tables x.vid))))

-- ---- the two facts of one step

pub came-far : (O : Overlay) (original : ℕ) (b : List ℕ) (x : Arrival) → came_by O original b ≡ Ok x → (k : Tunnel) × (a : Addr) × (x.from ≡ Remote k a)
came-far O original b x h = let y = came_by-arrived O original b x h in (y.0.from.0, y.0.from.1, y.2.from)

pub packet-locally : (s : State) (t original : ℕ) (b : List ℕ) → Knows s.bridges → ((vid : ℕ) (segment : SegmentSettings) → segment_at s.bridges.settings vid ≡ Some segment → AreOneGroup segment.tunnels)
    → AllByRecursion (λ o. IsLocal o.place) (outcomes_of (answer s (packet_at t original b)))
packet-locally s t original b knows groups = by (came_by B.settings.overlay original b) refl
  where
    B : Bridges
    B = aged t s.bridges

    by : (r : Result Arrival Refused) → came_by B.settings.overlay original b ≡ r → AllByRecursion (λ o. IsLocal o.place) (decided t B r).outcomes
    by (Err refused) is = tt
    by (Ok x) is =
        let far = came-far B.settings.overlay original b x is in
        let k = Knows-aged t s.bridges knows in
        sends-locally t B x far.0 far.1 k far.2 (came-reached B.settings.overlay original b x k.flood is) (groups x.vid)

pub deliveries-stay-local : (told : Told) (es : List Event) (t original : ℕ) (b : List ℕ) → MeetsRules told
    → ((vid : ℕ) (s : SegmentSettings) → segment_at (state_after (opened (settings_told told)) es).bridges.settings vid ≡ Some s → AreOneGroup s.tunnels)
    → AllByRecursion (λ o. IsLocal o.place) (outcomes_of (answer (state_after (opened (settings_told told)) es) (packet_at t original b)))
deliveries-stay-local told es t original b rules groups =
    packet-locally (state_after (opened (settings_told told)) es) t original b (Knows-run (opened (settings_told told)) es (Knows-opened told rules)) groups

pub once-to-each : (s : State) (t port original : ℕ) (b : List ℕ) (U : Underlay) → ((vid : ℕ) (segment : SegmentSettings) → segment_at s.bridges.settings vid ≡ Some segment → count_by (λ r. is_own U r.addr) segment.flood ≤ 1)
    → count_by (λ o. is_remote_of U o.place) (outcomes_of (answer s (frame_at t port original b))) ≤ 1
once-to-each s t port original b U once =
    subst (λ (n : ℕ). n ≤ 1) (how_many-count (λ (o : Sent). is_remote_of U o.place) (outcomes_of (answer s (frame_at t port original b)))) (by (came_at B.settings.ports B.settings.overlay port original b))
  where
    B : Bridges
    B = aged t s.bridges

    by : (r : Result Arrival Refused) → how_many (λ o. is_remote_of U o.place) (decided t B r).outcomes ≤ 1
    by (Err refused) = omega arith
    by (Ok x) = (sends t B x).remotes U (λ segment is. subst (λ (n : ℕ). n ≤ 1) (sym (how_many-count (λ r. is_own U r.addr) segment.flood)) (once x.vid segment is))
