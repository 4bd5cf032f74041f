-- What a table has of one address once another was learned, and where a frame goes by that.
use Rattle.std.proofs.Common.{◌≡◌, ◌∙◌, refl, sym, ap, ℕ, Bool, true, false, cond, ◌&&◌, List, Option, Some, None}
use Rattle.std.specs.Ordering.{eq_by_cmp}
use Rattle.std.specs.FinMap.{get, insert, len}
use Rattle.std.proofs.lemmas.Bool.{eq-eqb}
use Rattle.std.specs.Prelude.{IfOk, IsTrue, IsSome, []}
use Rattle.std.specs.List.{list_all}
use Rattle.std.specs.Option.{option_map, option_map_or, option_and_then}
use Rattle.wire.specs.Frame.{Frame}
use Rattle.wire.specs.declared.ether.reason.Reason.{Reason}
use Rattle.std.proofs.Common.{Result, subst}
use Rattle.filter_db.specs.Segment.{Segment}
use Rattle.shared_tables.specs.Segments.{segments_of}
use Rattle.overlay.specs.Overlay.{Overlay}
use Rattle.overlay.specs.declared.underlay.segment.Segment.{Segment as Tunneled}
use Rattle.filter_db.specs.declared.entry.Entry.{Entry}
use Rattle.filter_db.specs.declared.place.Place.{Place}
use Rattle.filter_db.specs.Table.{Table, mac_cmp, is_learned, learn}
use Rattle.filter_db.proofs.TableLemmas.{get-set, same_mac}
use Rattle.endpoint_core.specs.Held.{Held, HeldIsSound, settings_of, state_at}
use Rattle.endpoint_core.specs.Learning.{learns}
use Rattle.endpoint_core.specs.Settings.{BridgeSettings, SegmentSettings, segment_at, joined}
use Rattle.endpoint_core.specs.Sound.{AreReached, is_reached, reaches}
use Rattle.endpoint_core.specs.State.{State, bridge_of}
use Rattle.endpoint_core.specs.StateStep.{after_frame, can_leave, table_learned, verdict, verdict_in}
use Rattle.endpoint_core.proofs.SoundLemmas.{aged-reached, reached-learn}
use Rattle.endpoint_core.proofs.StandsLemmas.{stands}
use Rattle.endpoint_core.proofs.StepLemmas.{outlets-leave}

module _ (m : Table) (src dst : List ℕ) (e : Entry) where
  set : (b same : Bool) → eq_by_cmp mac_cmp dst src ≡ same → get (cond b (insert m src e) m) dst ≡ cond (same && b) (Some e) (get m dst)
  set true true is = get-set m src e dst ∙ ap (λ x. cond x (Some e) (get m dst)) is
  set true false is = get-set m src e dst ∙ ap (λ x. cond x (Some e) (get m dst)) is
  set false true is = refl
  set false false is = refl

  own : (limit : ℕ) (same : Bool) → eq_by_cmp mac_cmp dst src ≡ same → cond (same && is_learned limit (len m) (get m src)) (Some e) (get m dst) ≡ cond (same && is_learned limit (len m) (get m dst)) (Some e) (get m dst)
  own limit true is = ap (λ (mac : List ℕ). cond (is_learned limit (len m) (get m mac)) (Some e) (get m dst)) (sym (same_mac dst src is))
  own limit false is = refl

pub learned-gets : (learning : Bool) (limit entries t : ℕ) (from : Place) (src dst : List ℕ) (stood : Option Entry) (m : Table) → get m dst ≡ stood → len m ≡ entries
    → cond (learning && (eq_by_cmp mac_cmp dst src && is_learned limit entries stood)) (Some (record { place = from; last = Some t })) stood ≡ get (cond learning (learn limit t from src m) m) dst
learned-gets false limit entries t from src dst stood m is count = sym is
learned-gets true limit entries t from src dst stood m is count =
    let e : Entry = record { place = from; last = Some t } in
    let same = eq_by_cmp mac_cmp dst src in
    sym (
    set m src dst e (is_learned limit (len m) (get m src)) same refl
    ∙ own m src dst e limit same refl
    ∙ ap (λ (n : ℕ). cond (same && is_learned limit n (get m dst)) (Some e) (get m dst)) count
    ∙ ap (λ (o : Option Entry). cond (same && is_learned limit entries o) (Some e) o) is
    )

-- the table of the segment that a frame came to
pub came-table : (t vid : ℕ) (from : Place) (f : Frame) (S : State) (s : SegmentSettings) → segment_at S.settings vid ≡ Some s
    → (after_frame t vid from f S).tables vid ≡ cond s.learning (learn s.limit t from f.src (S.tables vid)) (S.tables vid)
came-table t vid from f S s is =
    ap (λ (b : Bool). cond b (table_learned t from f (segment_at S.settings vid) (S.tables vid)) (S.tables vid)) (eq-eqb vid vid refl)
    ∙ ap (λ (o : Option SegmentSettings). table_learned t from f o (S.tables vid)) is

-- ---- where a frame goes

has-table : (o : Option Segment) (f : Segment → BridgeSettings) (k : BridgeSettings → Option SegmentSettings) → IsSome (option_and_then k (option_map f o)) → IsSome o
has-table None f k h = h
has-table (Some s) f k h = refl

learned-reached : (b : Bool) (S : Overlay) (vid limit t : ℕ) (from : Place) (mac : List ℕ) (m : Table) → is_reached S vid from ≡ true → AreReached S vid m → AreReached S vid (cond b (learn limit t from mac m) m)
learned-reached true S vid limit t from mac m reached h = reached-learn S vid limit t from mac m reached h
learned-reached false S vid limit t from mac m reached h = h

-- a frame goes to places where it can leave
pub foreseen-leaves : (t vid : ℕ) (from : Place) (f : Frame) (held : Held) → HeldIsSound held → IsSome (segment_at (settings_of held) vid) → is_reached (settings_of held).overlay vid from ≡ true
    → IfOk (verdict t vid from f (state_at t held)) (λ places. IsTrue (list_all (can_leave (settings_of held) vid) places))
foreseen-leaves t vid from f held sound there reached =
    let S = state_at t held in
    let segments = segments_of held.tables in
    let it = stands held.ports held.under held.learning segments vid sound (has-table (segments vid) (bridge_of (learns held.learning vid)) _ there) in
    let own : SegmentSettings = joined (bridge_of (learns held.learning vid) it.table) it.tunneled it.members in
    let flood = ap (λ (o : Option Tunneled). list_all (λ r. reaches held.under vid r.tunnel r.addr) (option_map_or (λ h. h.flood) o [])) (sym it.has_tunnels) ∙ sound.flood vid in
    let after = subst (AreReached held.under vid) (sym (came-table t vid from f S own it.settings))
    (learned-reached own.learning held.under vid own.limit t from f.src (S.tables vid) reached (aged-reached held.under vid t (segments vid) (sound.tables vid))) in
    subst (λ (r : Result (List Place) Reason). IfOk r (λ places. IsTrue (list_all (can_leave (settings_of held) vid) places)))
    (sym (ap (λ (o : Option SegmentSettings). verdict_in held.ports o from f ((after_frame t vid from f S).tables vid)) it.settings))
    (outlets-leave (settings_of held) vid own it.has_members from f ((after_frame t vid from f S).tables vid) flood after)
