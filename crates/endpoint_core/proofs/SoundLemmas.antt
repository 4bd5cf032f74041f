-- What changes keep of what always holds.
use Rattle.std.proofs.Common.{◌≡◌, ℕ, ◌==◌, Bool, true, false, cond, ◌&&◌, ◌||◌, not, List, [], ◌∷◌, ◌++◌, Option, Some, None, refl, sym, ap, ◌∙◌, subst}
use Rattle.std.specs.Prelude.{is_some, IsSome}
use Rattle.std.specs.Option.{option_map, option_map_or, option_and_then, unwrap_or}
use Rattle.std.specs.List.{list_all, filter}
use Rattle.std.specs.Ordering.{eq_by_cmp}
use Rattle.std.specs.FinMap.{get, insert, remove, len, get-remove}
use Rattle.std.proofs.lemmas.Bool.{eqb-true, and_parts, and_from}
use Rattle.wire.specs.declared.ip_udp.addr.Addr.{Addr}
use Rattle.wire.specs.declared.ip_udp.addr.Tunnel.{Tunnel}
use Rattle.wire.specs.declared.ip_udp.addr.Tunnel.TheVariants.{Vxlan, Geneve}
use Rattle.wire.specs.Addr.{same_kind}
use Rattle.wire.specs.First.{first}
use Rattle.wire.proofs.FirstLemmas.{NothingHolds-from}
use Rattle.overlay.specs.declared.flood.own.Own.{Own}
use Rattle.overlay.specs.Flood.{Entries, has_family, is_entry, without, add_faults}
use Rattle.endpoint_core.specs.Change.{addr_faults}
use Rattle.std.proofs.lemmas.List.Folds.{list_all-append}
use Rattle.overlay.specs.UnderlaySettings.{own}
use Rattle.overlay.specs.Tunnels.{of_kind}
use Rattle.overlay.specs.declared.underlay.segment.Segment.{Segment as Tunneled}
use Rattle.overlay.specs.declared.underlay.tunnels.SegmentTunnel.{SegmentTunnel}
use Rattle.overlay.specs.declared.ports.member.Egress.{Egress}
use Rattle.overlay.specs.Ports.{with_member}
use Rattle.overlay.proofs.PlacesLemmas.{get-insert_at}
use Rattle.overlay.proofs.SetterLemmas.{has_segment-with_member}
use Rattle.endpoint_core.specs.Settings.{kind_named}
use Rattle.overlay.specs.declared.flood.remote.Remote.{Remote as Target}
use Rattle.filter_db.specs.declared.entry.Entry.{Entry}
use Rattle.filter_db.specs.declared.place.Place.{Place}
use Rattle.filter_db.specs.declared.place.Place.TheVariants.{Local, Remote}
use Rattle.filter_db.specs.Table.{Table, mac_cmp, kept, stands, nanoseconds, is_live, is_learned, is_full, has_fixed, learn, fix, unfix}
use Rattle.filter_db.specs.Segment.{Segment, Segments, no_segment, aged, aged_all, adjusted, segment_at as table_of}
use Rattle.filter_db.specs.Ageing.{get-kept, sifted, mac_total}
use Rattle.filter_db.proofs.TableLemmas.{get-set}
use Rattle.overlay.specs.Ports.{Ports, has_segment as has_members}
use Rattle.overlay.specs.Overlay.{Overlay, segment_at as under_at, flood_at, tunnel_of, with_flood}
use Rattle.endpoint_core.specs.Sound.{reaches, is_reached, is_reached_if, AreReached, AreSound}
use Rattle.endpoint_core.proofs.StandsLemmas.{stands as segment_stands}

-- ---- tables

module _ (S : Overlay) (vid : ℕ) where
  sifted-reached : (p : Entry → Bool) (o : Option Entry) → is_reached_if S vid (option_map (λ e. e.place) o) ≡ true → is_reached_if S vid (option_map (λ e. e.place) (sifted p o)) ≡ true
  sifted-reached p None h = refl
  sifted-reached p (Some e) h = by (p e)
    where
      by : (b : Bool) → is_reached_if S vid (option_map (λ x. x.place) (cond b (Some e) None)) ≡ true
      by true = h
      by false = refl

  -- fewer entries
  pub reached-kept : (p : Entry → Bool) (m : Table) → AreReached S vid m → AreReached S vid (kept p m)
  reached-kept p m h = λ mac. ap (λ (o : Option Entry). is_reached_if S vid (option_map (λ e. e.place) o)) (get-kept p m mac) ∙ sifted-reached p (get m mac) (h mac)

  set-reached : (b : Bool) (e : Entry) (o : Option Entry) → is_reached S vid e.place ≡ true → is_reached_if S vid (option_map (λ x. x.place) o) ≡ true → is_reached_if S vid (option_map (λ x. x.place) (cond b (Some e) o)) ≡ true
  set-reached true e o own h = own
  set-reached false e o own h = h

  -- one more, at a place that is reached
  pub reached-insert : (mac : List ℕ) (e : Entry) (m : Table) → is_reached S vid e.place ≡ true → AreReached S vid m → AreReached S vid (insert m mac e)
  reached-insert mac e m own h = λ q. ap (λ (o : Option Entry). is_reached_if S vid (option_map (λ x. x.place) o)) (get-set m mac e q) ∙ set-reached (eq_by_cmp mac_cmp q mac) e (get m q) own (h q)

  without-reached : (b : Bool) (o : Option Entry) → is_reached_if S vid (option_map (λ x. x.place) o) ≡ true → is_reached_if S vid (option_map (λ x. x.place) (cond b None o)) ≡ true
  without-reached true o h = refl
  without-reached false o h = h

  pub reached-remove : (mac : List ℕ) (m : Table) → AreReached S vid m → AreReached S vid (remove m mac)
  reached-remove mac m h = λ q. ap (λ (o : Option Entry). is_reached_if S vid (option_map (λ x. x.place) o)) (get-remove mac_total m mac q) ∙ without-reached (eq_by_cmp mac_cmp q mac) (get m q) (h q)

  either : (b : Bool) (m n : Table) → AreReached S vid m → AreReached S vid n → AreReached S vid (cond b m n)
  either true m n hm hn = hm
  either false m n hm hn = hn

  pub reached-learn : (limit t : ℕ) (place : Place) (mac : List ℕ) (m : Table) → is_reached S vid place ≡ true → AreReached S vid m → AreReached S vid (learn limit t place mac m)
  reached-learn limit t place mac m own h =
      either (is_learned limit (len m) (get m mac)) (insert m mac (record { place = place; last = Some t })) m (reached-insert mac (record { place = place; last = Some t }) m own h) h

  pub reached-fix : (limit : ℕ) (place : Place) (mac : List ℕ) (m : Table) → is_reached S vid place ≡ true → AreReached S vid m → AreReached S vid (fix limit place mac m)
  reached-fix limit place mac m own h =
      either (is_full limit mac m) m (insert m mac (record { place = place; last = None })) h (reached-insert mac (record { place = place; last = None }) m own h)

  pub reached-unfix : (mac : List ℕ) (m : Table) → AreReached S vid m → AreReached S vid (unfix mac m)
  reached-unfix mac m h = either (has_fixed mac m) (remove m mac) m (reached-remove mac m h) h

-- ---- the tables of all segments

IsSome-map : {X Y : Type 0} (f : X → Y) (o : Option X) → is_some (option_map f o) ≡ is_some o
IsSome-map f None = refl
IsSome-map f (Some x) = refl

some-adjusted : (b : Bool) (f : Segment → Segment) (t : ℕ) (o : Option Segment) → is_some (cond b (option_map f (option_map (aged t) o)) (option_map (aged t) o)) ≡ is_some o
some-adjusted true f t o = IsSome-map f (option_map (aged t) o) ∙ IsSome-map (aged t) o
some-adjusted false f t o = IsSome-map (aged t) o

abbrev entries_in : Option Segment → Table
entries_in o = (unwrap_or o no_segment).entries

pub aged-reached : (S : Overlay) (vid t : ℕ) (o : Option Segment) → AreReached S vid (entries_in o) → AreReached S vid (entries_in (option_map (aged t) o))
aged-reached S vid t None h = h
aged-reached S vid t (Some s) h = reached-kept S vid (is_live (nanoseconds s.ageing) t) s.entries h

mapped-reached : (S : Overlay) (vid : ℕ) (f : Segment → Segment) (o : Option Segment) → ((s : Segment) → AreReached S vid s.entries → AreReached S vid (f s).entries) → AreReached S vid (entries_in o) → AreReached S vid (entries_in (option_map f o))
mapped-reached S vid f None keeps h = h
mapped-reached S vid f (Some s) keeps h = keeps s h

-- the same parts
pub sound-same : (ports ports' : Ports) (S S' : Overlay) (segments segments' : Segments) → ports' ≡ ports → S' ≡ S → segments' ≡ segments → AreSound ports S segments → AreSound ports' S' segments'
sound-same ports ports' S S' segments segments' is_ports is_under is_tables sound =
    subst (λ (P : Ports). AreSound P S' segments') (sym is_ports)
    (subst (λ (O : Overlay). AreSound ports O segments') (sym is_under)
    (subst (λ (g : Segments). AreSound ports S g) (sym is_tables) sound))

pub sound-adjusted : (t vid : ℕ) (f : Segment → Segment) (ports : Ports) (S : Overlay) (segments new : Segments) → AreSound ports S segments → ((s : Segment) → AreReached S vid s.entries → AreReached S vid (f s).entries) → new ≡ adjusted vid f (aged_all t segments) → AreSound ports S new
sound-adjusted t vid f ports S segments new sound keeps is = subst (λ (n : Segments). AreSound ports S n) (sym is) (record {
  members = λ w. sound.members w ∙ sym (same w);
  tunnels = λ w. sound.tunnels w ∙ sym (same w);
  vids = λ w there. sound.vids w (sym (same w) ∙ there);
  flood = sound.flood;
  tables = at;
})
  where
    same : (w : ℕ) → is_some (adjusted vid f (aged_all t segments) w) ≡ is_some (segments w)
    same w = some-adjusted (w == vid) f t (segments w)

    at : (w : ℕ) → AreReached S w (entries_in (adjusted vid f (aged_all t segments) w))
    at w = elim (w == vid) as (λ b. (w == vid) ≡ b → AreReached S w (entries_in (cond b (option_map f (aged_all t segments w)) (aged_all t segments w)))) [
      | true ↦ λ own. subst (λ (v : ℕ). AreReached S v (entries_in (option_map f (aged_all t segments v)))) (sym (eqb-true w vid own))
          (mapped-reached S vid f (aged_all t segments vid) keeps (aged-reached S vid t (segments vid) (sound.tables vid)))
      | false ↦ λ other. aged-reached S w t (segments w) (sound.tables w)
    ] refl

-- the table of each segment, where one was changed
pub adjusted-reached : (S : Overlay) (w t vid : ℕ) (f : Segment → Segment) (segments : Segments) → ((s : Segment) → AreReached S w s.entries → AreReached S w (f s).entries) → AreReached S w (entries_in (segments w)) → AreReached S w (entries_in (adjusted vid f (aged_all t segments) w))
adjusted-reached S w t vid f segments keeps h = by (w == vid)
  where
    before : AreReached S w (entries_in (aged_all t segments w))
    before = aged-reached S w t (segments w) h

    by : (b : Bool) → AreReached S w (entries_in (cond b (option_map f (aged_all t segments w)) (aged_all t segments w)))
    by true = mapped-reached S w f (aged_all t segments w) keeps before
    by false = before

-- all tables changed alike
pub sound-everywhere : (t : ℕ) (f : Segment → Segment) (ports : Ports) (S : Overlay) (segments new : Segments) → AreSound ports S segments → ((w : ℕ) → aged_all t new w ≡ option_map f (aged_all t segments w)) → ((w : ℕ) → AreReached S w (entries_in (segments w)) → AreReached S w (entries_in (new w))) → AreSound ports S new
sound-everywhere t f ports S segments new sound alike reached = record {
  members = λ w. sound.members w ∙ same w;
  tunnels = λ w. sound.tunnels w ∙ same w;
  vids = λ w there. sound.vids w (same w ∙ there);
  flood = sound.flood;
  tables = λ w. reached w (sound.tables w);
}
  where
    same : (w : ℕ) → is_some (segments w) ≡ is_some (new w)
    same w =
        sym (IsSome-map (aged t) (segments w)) ∙ sym (IsSome-map f (aged_all t segments w)) ∙ ap is_some (sym (alike w)) ∙ IsSome-map (aged t) (new w)

-- ---- flood lists

-- the tunnel that a change means is one of the segment's
same_kind_is : (a b : Tunnel) → same_kind a b ≡ true → a ≡ b
same_kind_is Vxlan Vxlan h = refl
same_kind_is Vxlan Geneve h = absurd (cc)
same_kind_is Geneve Vxlan h = absurd (cc)
same_kind_is Geneve Geneve h = refl

same_kind_itself : (a : Tunnel) → same_kind a a ≡ true
same_kind_itself Vxlan = refl
same_kind_itself Geneve = refl

found-kind : (k kind : Tunnel) (tunnels : List SegmentTunnel) → option_map (λ t. t.kind) (of_kind k tunnels) ≡ Some kind → is_some (of_kind kind tunnels) ≡ true
found-kind k kind [] h = absurd (cc)
found-kind k kind (t ∷ tunnels) h = by (same_kind t.kind k) refl (found-kind k kind tunnels) h
  where
    by : (b : Bool) → same_kind t.kind k ≡ b → (option_map (λ u. u.kind) (of_kind k tunnels) ≡ Some kind → is_some (of_kind kind tunnels) ≡ true) → option_map (λ u. u.kind) (cond b (Some t) (of_kind k tunnels)) ≡ Some kind → is_some (cond (same_kind t.kind kind) (Some t) (of_kind kind tunnels)) ≡ true
    by true same rest is =
        let own : t.kind ≡ kind = cc in
        ap (λ (b : Bool). is_some (cond b (Some t) (of_kind kind tunnels))) (ap (same_kind t.kind) (sym own) ∙ same_kind_itself t.kind)
    by false other rest is = behind (same_kind t.kind kind) (rest is)
      where
        behind : (c : Bool) → is_some (of_kind kind tunnels) ≡ true → is_some (cond c (Some t) (of_kind kind tunnels)) ≡ true
        behind true there = refl
        behind false there = there

pub kind-there : (tunnels : List SegmentTunnel) (named : Option Tunnel) (kind : Tunnel) → kind_named tunnels named ≡ Some kind → is_some (of_kind kind tunnels) ≡ true
kind-there tunnels (Some k) kind h = found-kind k kind tunnels h
kind-there [] None kind h = absurd (cc)
kind-there (t ∷ tunnels) None kind h =
    let own : t.kind ≡ kind = cc in
    ap (λ (b : Bool). is_some (cond b (Some t) (of_kind kind tunnels))) (ap (same_kind t.kind) (sym own) ∙ same_kind_itself t.kind)

abbrev reached_by : Overlay → ℕ → Target → Bool
reached_by S vid r = reaches S vid r.tunnel r.addr

all-filter : (p q : Target → Bool) (rs : Entries) → list_all p rs ≡ true → list_all p (filter q rs) ≡ true
all-filter p q [] h = refl
all-filter p q (r ∷ rs) h =
    let both = and_parts (p r) (list_all p rs) h in
    let rest = all-filter p q rs both.1 in
    elim (q r) as (λ b. list_all p (cond b (r ∷ filter q rs) (filter q rs)) ≡ true) [
      | true ↦ and_from (p r) (list_all p (filter q rs)) both.0 rest
      | false ↦ rest
    ]

pub reached-without : (S : Overlay) (vid : ℕ) (flood : Entries) (kind : Tunnel) (addr : Addr) → list_all (reached_by S vid) flood ≡ true → list_all (reached_by S vid) (without flood kind addr) ≡ true
reached-without S vid flood kind addr h = all-filter (reached_by S vid) (λ entry. not (is_entry kind addr entry)) flood h

pub reached-added : (S : Overlay) (vid : ℕ) (flood : Entries) (kind : Tunnel) (addr : Addr) → list_all (reached_by S vid) flood ≡ true → reaches S vid kind addr ≡ true → list_all (reached_by S vid) (flood ++ record { tunnel = kind; addr = addr } ∷ []) ≡ true
reached-added S vid flood kind addr all own =
    list_all-append (reached_by S vid) flood (record { tunnel = kind; addr = addr } ∷ [])
    ∙ and_from (list_all (reached_by S vid) flood) (reaches S vid kind addr && true) all (and_from (reaches S vid kind addr) true own refl)

module _ (S : Overlay) (vid : ℕ) (g : Tunneled) (flood : Entries) (there : under_at S vid ≡ Some g) where
  at_flooded : (w : ℕ) → under_at (with_flood S vid flood) w ≡ cond (w == vid) (Some (record g { flood = flood })) (under_at S w)
  at_flooded w =
      ap (λ (o : Option Tunneled). get (option_map_or (λ h. insert S.segments vid (record h { flood = flood })) o S.segments) w) there
      ∙ get-insert_at S.segments vid (record g { flood = flood }) w

  -- a word that doesn't depend on the flood list
  as_before : {X : Type 0} (f : Option Tunneled → X) → f (Some (record g { flood = flood })) ≡ f (Some g) → (w : ℕ) → f (under_at (with_flood S vid flood) w) ≡ f (under_at S w)
  as_before f same w = ap f (at_flooded w) ∙ by (w == vid) refl
    where
      by : (b : Bool) → (w == vid) ≡ b → f (cond b (Some (record g { flood = flood })) (under_at S w)) ≡ f (under_at S w)
      by true own = same ∙ ap f (sym there) ∙ ap (λ (v : ℕ). f (under_at S v)) (sym (eqb-true w vid own))
      by false other = refl

  reaches-flooded : (w : ℕ) (kind : Tunnel) (addr : Addr) → reaches (with_flood S vid flood) w kind addr ≡ reaches S w kind addr
  reaches-flooded w kind addr = ap (λ (b : Bool). b && has_family (own S.underlay) addr) (as_before (λ o. is_some (option_and_then (λ h. tunnel_of h kind) o)) refl w)

  if-flooded : (w : ℕ) (place : Option Place) → is_reached_if (with_flood S vid flood) w place ≡ is_reached_if S w place
  if-flooded w None = refl
  if-flooded w (Some (Local port)) = refl
  if-flooded w (Some (Remote kind addr)) = reaches-flooded w kind addr

  all-flooded : (w : ℕ) (rs : Entries) → list_all (reached_by (with_flood S vid flood) w) rs ≡ list_all (reached_by S w) rs
  all-flooded w [] = refl
  all-flooded w (r ∷ rs) = ap (λ (b : Bool). b && list_all (reached_by (with_flood S vid flood) w) rs) (reaches-flooded w r.tunnel r.addr) ∙ ap (λ (b : Bool). reached_by S w r && b) (all-flooded w rs)

  pub sound-flood : (ports : Ports) (segments : Segments) → AreSound ports S segments → list_all (reached_by S vid) flood ≡ true → AreSound ports (with_flood S vid flood) segments
  sound-flood ports segments sound all = record {
    members = sound.members;
    tunnels = λ w. as_before is_some refl w ∙ sound.tunnels w;
    vids = sound.vids;
    flood = floods;
    tables = λ w mac. if-flooded w (stands mac (table_of w segments).entries) ∙ sound.tables w mac;
  }
    where
      floods : (w : ℕ) → list_all (reached_by (with_flood S vid flood) w) (flood_at (with_flood S vid flood) w) ≡ true
      floods w = all-flooded w (flood_at (with_flood S vid flood) w) ∙ ap (λ (o : Option Tunneled). list_all (reached_by S w) (option_map_or (λ h. h.flood) o [])) (at_flooded w) ∙ by (w == vid) refl
        where
          by : (b : Bool) → (w == vid) ≡ b → list_all (reached_by S w) (option_map_or (λ h. h.flood) (cond b (Some (record g { flood = flood })) (under_at S w)) []) ≡ true
          by true own = ap (λ (v : ℕ). list_all (reached_by S v) flood) (eqb-true w vid own) ∙ all
          by false other = sound.flood w

-- the same of a segment that has tables
pub sound-relisted : (ports : Ports) (S : Overlay) (segments : Segments) (vid : ℕ) (flood : Entries) → AreSound ports S segments → IsSome (segments vid) → list_all (reached_by S vid) flood ≡ true → AreSound ports (with_flood S vid flood) segments
sound-relisted ports S segments vid flood sound there all =
    let it = segment_stands ports S [] segments vid sound there in
    sound-flood S vid it.tunneled flood it.has_tunnels ports segments sound all

-- ---- ports

pub sound-ports : (ports ports' : Ports) (S : Overlay) (segments : Segments) → AreSound ports S segments → ((w : ℕ) → has_members ports' w ≡ has_members ports w) → AreSound ports' S segments
sound-ports ports ports' S segments sound same = record {
  members = λ w. same w ∙ sound.members w;
  tunnels = sound.tunnels;
  vids = sound.vids;
  flood = sound.flood;
  tables = sound.tables;
}

-- a membership in a segment that is there
pub members-as_before : (ports : Ports) (vid port : ℕ) (egress : Option Egress) → has_members ports vid ≡ true → (w : ℕ) → has_members (with_member ports vid port egress) w ≡ has_members ports w
members-as_before ports vid port egress there w = has_segment-with_member ports vid port egress w ∙ by (w == vid) refl
  where
    by : (b : Bool) → (w == vid) ≡ b → (b || has_members ports w) ≡ has_members ports w
    by true own = sym (ap (has_members ports) (eqb-true w vid own) ∙ there)
    by false other = refl

-- ---- own addresses

negated : (b : Bool) → not b ≡ false → b ≡ true
negated true h = refl
negated false h = absurd (cc)

-- an address that is added has the family of an own one
pub family-added : (own : Own) (most : ℕ) (flood : Entries) (kind : Tunnel) (addr : Addr) → None ≡ first (add_faults own most flood kind addr) → has_family own addr ≡ true
family-added own most flood kind addr none = negated (has_family own addr) ((NothingHolds-from (add_faults own most flood kind addr) (sym none)).1.0)

-- and so has one where an entry is fixed
pub family-fixed : (own : Own) (addr : Addr) → None ≡ first (addr_faults own addr) → has_family own addr ≡ true
family-fixed own addr none = negated (has_family own addr) ((NothingHolds-from (addr_faults own addr) (sym none)).1.1.0)
