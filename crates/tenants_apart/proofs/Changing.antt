-- What a change makes of a segment's own part of the settings.
use Rattle.std.proofs.Common.{◌≡◌, ℕ, ◌==◌, Bool, true, false, cond, not, ◌&&◌, [], ◌∷◌, length, Option, Some, None, refl, sym, ap, ◌∙◌, subst}
use Rattle.std.specs.Prelude.{is_none}
use Rattle.wire.specs.First.{first}
use Rattle.std.specs.FinMap.{empty, get, insert}
use Rattle.std.specs.Option.{option_map, option_map_or, unwrap_or}
use Rattle.std.proofs.lemmas.Bool.{false≢true, eqb-true, eq-eqb}
use Rattle.overlay.specs.Flood.{Entries}
use Rattle.overlay.specs.Ports.{Members, is_port, member_set, with_up}
use Rattle.overlay.specs.declared.ports.port.PortRule.{PortRule}
use Rattle.overlay.proofs.PlacesLemmas.{get-insert_at, get-insert_same, get-remove_at}
use Rattle.overlay.specs.Overlay.{Segments, segment_of, flooding, with_flood}
use Rattle.overlay.specs.declared.underlay.segment.Segment.{Segment}
use Rattle.overlay.specs.declared.settings.change.Change.{Change}
use Rattle.overlay.specs.declared.settings.change.Change.TheVariants.{AddFlood, RemoveFlood, Fix, Unfix, SetAgeing, SetLearning, SetMember, PortUp, PortDown, Flush, AddSegment, RemoveSegment, SetLimit}
use Rattle.endpoint_core.specs.declared.state.fault.ChangeFault.TheVariants.{NoPort}
use Rattle.endpoint_core.specs.Settings.{Settings, BridgeSettings, SegmentSettings, segment_at}
use Rattle.endpoint_core.specs.Effect.{Effect, ToFlood, ToBridge, ToLimit, ToMembers, ToPort, Comes, Goes, ToNothing, effect, with_flood_of, new_tunnels, new_bridge, applied}
use Rattle.endpoint_core.specs.Change.{is_about, refused, accepted, changed}
use Rattle.endpoint_core.proofs.EffectLemmas.{is_to, effect-other}
use Rattle.tenants_apart.specs.Own.{Needs, Part, part_of, port_there, is_needed, is_own_change}
use Rattle.tenants_apart.proofs.Refusing.{whole_of}
use Rattle.tenants_apart.proofs.There.{turned, there-with_up}

-- ---- a flood list

abbrev pub flooded : Entries → Segment → Segment
flooded flood g = record g { flood = flood }

pub flooding-at : (segments : Segments) (v : ℕ) (flood : Entries) (w : ℕ) → get (flooding segments v flood) w ≡ cond (w == v) (option_map (flooded flood) (get segments v)) (get segments w)
flooding-at segments v flood w = by (get segments v) refl
  where
    none : (b : Bool) → (w == v) ≡ b → get segments v ≡ None → get segments w ≡ cond b None (get segments w)
    none true same is = ap (get segments) (eqb-true w v same) ∙ is
    none false other is = refl

    by : (o : Option Segment) → get segments v ≡ o → get (option_map_or (λ g. insert segments v (flooded flood g)) o segments) w ≡ cond (w == v) (option_map (flooded flood) o) (get segments w)
    by None is = none (w == v) refl is
    by (Some g) is = get-insert_at segments v (flooded flood g) w

-- ---- an effect

-- what an effect makes of the segment's own part
abbrev pub part_applied : ℕ → Effect → Part → Part
part_applied vid (ToFlood v change) p = record p { tunnels = cond (vid == v) (option_map_or (λ s. option_map (flooded (change s)) p.tunnels) (whole_of p) p.tunnels) p.tunnels }
part_applied vid (ToBridge v change) p = record p { bridge = cond (vid == v) (option_map (λ (r : BridgeSettings). let rule : BridgeSettings = record (change r) { limit = r.limit } in rule) p.bridge) p.bridge }
part_applied vid (ToLimit v limit) p = record p { bridge = cond (vid == v) (option_map (λ (r : BridgeSettings). let rule : BridgeSettings = record r { limit = limit } in rule) p.bridge) p.bridge }
part_applied vid (ToMembers v port egress) p = record p { members = cond (vid == v) (Some (member_set (unwrap_or p.members empty) port egress)) p.members }
part_applied vid (ToPort port up) p = record p { ports = λ q. cond (q == port) (option_map (turned up) (p.ports q)) (p.ports q) }
part_applied vid (Comes new) p = record p {
  members = cond (vid == new.vid) (Some empty) p.members;
  tunnels = cond (vid == new.vid) (Some (segment_of (new_tunnels new))) p.tunnels;
  bridge = cond (vid == new.vid) (Some (new_bridge new)) p.bridge;
}
part_applied vid (Goes v) p = record p {
  members = cond (vid == v) None p.members;
  tunnels = cond (vid == v) None p.tunnels;
  bridge = cond (vid == v) None p.bridge;
}
part_applied vid ToNothing p = p

abbrev flood_set : Settings → ℕ → (SegmentSettings → Entries) → Option SegmentSettings → Settings
flood_set S v flood o = option_map_or (λ s. let left : Settings = record S { overlay = with_flood S.overlay v (flood s) } in left) o S

-- a flood list of the segment of this VID, which has these settings, or none
part-flooded : (vid : ℕ) (needs : Needs) (S : Settings) (flood : SegmentSettings → Entries) (o : Option SegmentSettings) → part_of vid needs (flood_set S vid flood o) ≡ (let p : Part = part_of vid needs S in record p { tunnels = option_map_or (λ s. option_map (flooded (flood s)) p.tunnels) o p.tunnels })
part-flooded vid needs S flood None = refl
part-flooded vid needs S flood (Some s) = λ i.
    let p : Part = part_of vid needs S in
    record p { tunnels = (flooding-at S.overlay.segments vid (flood s) vid ∙ ap (λ (b : Bool). cond b (option_map (flooded (flood s)) (get S.overlay.segments vid)) (get S.overlay.segments vid)) (eq-eqb vid vid refl)) i }

part-flooded_other : (vid v : ℕ) (needs : Needs) (S : Settings) (flood : SegmentSettings → Entries) (o : Option SegmentSettings) → (vid == v) ≡ false → part_of vid needs (flood_set S v flood o) ≡ part_of vid needs S
part-flooded_other vid v needs S flood None other = refl
part-flooded_other vid v needs S flood (Some s) other = λ i.
    let p : Part = part_of vid needs S in
    record p { tunnels = (flooding-at S.overlay.segments v (flood s) vid ∙ ap (λ (b : Bool). cond b (option_map (flooded (flood s)) (get S.overlay.segments v)) (get S.overlay.segments vid)) other) i }

-- a port that goes up or down is there
abbrev IsIn : Settings → Effect → Type 0
IsIn S (ToPort port up) = is_port (length S.ports.ports) port ≡ true
IsIn S _ = Unit {0}

port-in : (b : Bool) → is_none (first ((NoPort, not b) ∷ [])) ≡ true → b ≡ true
port-in true h = refl
port-in false h = h

effect-in : (S : Settings) (c : Change) → is_none (refused S c) ≡ true → IsIn S (effect c)
effect-in S (AddFlood v addr tunnel) h = tt
effect-in S (RemoveFlood v addr tunnel) h = tt
effect-in S (Fix v mac target) h = tt
effect-in S (Unfix v mac) h = tt
effect-in S (SetAgeing v seconds) h = tt
effect-in S (SetLearning v on) h = tt
effect-in S (SetMember v port egress) h = tt
effect-in S (PortUp port) h = port-in (is_port (length S.ports.ports) port) h
effect-in S (PortDown port) h = port-in (is_port (length S.ports.ports) port) h
effect-in S (Flush v) h = tt
effect-in S (AddSegment new) h = tt
effect-in S (RemoveSegment v) h = tt
effect-in S (SetLimit v limit) h = tt

pub part-applied : (vid : ℕ) (needs : Needs) (e : Effect) (S : Settings) → IsIn S e → part_of vid needs (applied e S) ≡ part_applied vid e (part_of vid needs S)
part-applied vid needs (ToFlood v change) S is = by (vid == v) refl
  where
    by : (b : Bool) → (vid == v) ≡ b → part_of vid needs (with_flood_of S v change) ≡ (let p : Part = part_of vid needs S in record p { tunnels = cond b (option_map_or (λ s. option_map (flooded (change s)) p.tunnels) (whole_of p) p.tunnels) p.tunnels })
    by true same =
        subst (λ (u : ℕ). part_of u needs (with_flood_of S v change) ≡ (let p : Part = part_of u needs S in record p { tunnels = option_map_or (λ s. option_map (flooded (change s)) p.tunnels) (whole_of p) p.tunnels })) (sym (eqb-true vid v same))
        (part-flooded v needs S change (segment_at S v))
    by false other = part-flooded_other vid v needs S change (segment_at S v) other
part-applied vid needs (ToBridge v change) S is = refl
part-applied vid needs (ToLimit v limit) S is = refl
part-applied vid needs (ToMembers v port egress) S is = by (vid == v) refl
  where
    joining : Members
    joining = member_set (unwrap_or (get S.ports.segments v) empty) port egress

    by : (b : Bool) → (vid == v) ≡ b → part_of vid needs (applied (ToMembers v port egress) S) ≡ (let p : Part = part_of vid needs S in record p { members = cond b (Some (member_set (unwrap_or p.members empty) port egress)) p.members })
    by true same =
        subst (λ (u : ℕ). part_of u needs (applied (ToMembers v port egress) S) ≡ (let p : Part = part_of u needs S in record p { members = Some (member_set (unwrap_or p.members empty) port egress) })) (sym (eqb-true vid v same))
        (λ i. let p : Part = part_of v needs S in record p { members = get-insert_same S.ports.segments v joining i })
    by false other = λ i.
        let p : Part = part_of vid needs S in
        record p { members = (get-insert_at S.ports.segments v joining vid ∙ ap (λ (b : Bool). cond b (Some joining) (get S.ports.segments vid)) other) i }
part-applied vid needs (ToPort port up) S is = λ i. let p : Part = part_of vid needs S in record p { ports = λ q. ported q (needs.ports q) i }
  where
    ported : (q : ℕ) (b : Bool) → cond b (port_there (with_up S.ports port up) q) None ≡ cond (q == port) (option_map (turned up) (cond b (port_there S.ports q) None)) (cond b (port_there S.ports q) None)
    ported q true = there-with_up S.ports port up q is
    ported q false = nothing (q == port)
      where
        nothing : (b : Bool) → (let o : Option PortRule = None in o) ≡ cond b (option_map (turned up) None) None
        nothing true = refl
        nothing false = refl
part-applied vid needs (Comes new) S is = λ i.
    let p : Part = part_of vid needs S in
    record p {
      members = get-insert_at S.ports.segments new.vid empty vid i;
      tunnels = get-insert_at S.overlay.segments new.vid (segment_of (new_tunnels new)) vid i;
      bridge = cond (vid == new.vid) (Some (new_bridge new)) (S.bridges vid);
    }
part-applied vid needs (Goes v) S is = λ i.
    let p : Part = part_of vid needs S in
    record p {
      members = get-remove_at S.ports.segments v vid i;
      tunnels = get-remove_at S.overlay.segments v vid i;
      bridge = cond (vid == v) None (S.bridges vid);
    }
part-applied vid needs ToNothing S is = refl

-- an effect to another segment leaves it
pub part-other : (vid : ℕ) (e : Effect) (p : Part) → is_to vid e ≡ false → part_applied vid e p ≡ p
part-other vid (ToFlood v change) p other = ap (λ (b : Bool). let left : Part = record p { tunnels = cond b (option_map_or (λ s. option_map (flooded (change s)) p.tunnels) (whole_of p) p.tunnels) p.tunnels } in left) other
part-other vid (ToBridge v change) p other =
    ap (λ (b : Bool). let left : Part = record p { bridge = cond b (option_map (λ (r : BridgeSettings). let rule : BridgeSettings = record (change r) { limit = r.limit } in rule) p.bridge) p.bridge } in left) other
part-other vid (ToLimit v limit) p other =
    ap (λ (b : Bool). let left : Part = record p { bridge = cond b (option_map (λ (r : BridgeSettings). let rule : BridgeSettings = record r { limit = limit } in rule) p.bridge) p.bridge } in left) other
part-other vid (ToMembers v port egress) p other = ap (λ (b : Bool). let left : Part = record p { members = cond b (Some (member_set (unwrap_or p.members empty) port egress)) p.members } in left) other
part-other vid (ToPort port up) p other = absurd (false≢true (sym other))
part-other vid (Comes new) p other =
    ap (λ (b : Bool). let left : Part = record p { members = cond b (Some empty) p.members; tunnels = cond b (Some (segment_of (new_tunnels new))) p.tunnels; bridge = cond b (Some (new_bridge new)) p.bridge } in left) other
part-other vid (Goes v) p other =
    ap (λ (b : Bool). let left : Part = record p { members = cond b None p.members; tunnels = cond b None p.tunnels; bridge = cond b None p.bridge } in left) other
part-other vid ToNothing p other = refl

-- nor does one to a port that the segment doesn't need
unneeded-other : (vid : ℕ) (needs : Needs) (S : Settings) (e : Effect) → is_needed needs e ≡ false → part_applied vid e (part_of vid needs S) ≡ part_of vid needs S
unneeded-other vid needs S (ToPort port up) other = λ i. let p : Part = part_of vid needs S in record p { ports = λ q. left q (q == port) refl i }
  where
    left : (q : ℕ) (b : Bool) → (q == port) ≡ b → cond b (option_map (turned up) (cond (needs.ports q) (port_there S.ports q) None)) (cond (needs.ports q) (port_there S.ports q) None) ≡ cond (needs.ports q) (port_there S.ports q) None
    left q true is = by (needs.ports q) (ap needs.ports (eqb-true q port is) ∙ other)
      where
        by : (c : Bool) → c ≡ false → option_map (turned up) (cond c (port_there S.ports q) None) ≡ cond c (port_there S.ports q) None
        by true h = absurd (false≢true (sym h))
        by false h = refl
    left q false is = refl
unneeded-other vid needs S (ToFlood v change) other = absurd (false≢true (sym other))
unneeded-other vid needs S (ToBridge v change) other = absurd (false≢true (sym other))
unneeded-other vid needs S (ToLimit v limit) other = absurd (false≢true (sym other))
unneeded-other vid needs S (ToMembers v port egress) other = absurd (false≢true (sym other))
unneeded-other vid needs S (Comes new) other = absurd (false≢true (sym other))
unneeded-other vid needs S (Goes v) other = absurd (false≢true (sym other))
unneeded-other vid needs S ToNothing other = absurd (false≢true (sym other))

-- what a change of the segment's own is
pub own-about : (vid : ℕ) (needs : Needs) (c : Change) → is_own_change vid needs c ≡ true → is_about vid c ≡ true
own-about vid needs c own = by (is_about vid c) own
  where
    by : (b : Bool) → b && is_needed needs (effect c) ≡ true → b ≡ true
    by true h = refl
    by false h = h

pub own-needed : (vid : ℕ) (needs : Needs) (c : Change) → is_own_change vid needs c ≡ true → is_needed needs (effect c) ≡ true
own-needed vid needs c own = by (is_about vid c) own
  where
    by : (b : Bool) → b && is_needed needs (effect c) ≡ true → is_needed needs (effect c) ≡ true
    by true h = h
    by false h = absurd (false≢true h)

-- ---- the settings after a change

-- one that is made
pub part-accepted : (vid : ℕ) (needs : Needs) (S : Settings) (c : Change) → is_none (refused S c) ≡ true → part_of vid needs (accepted S c) ≡ part_applied vid (effect c) (part_of vid needs S)
part-accepted vid needs S c taken = part-applied vid needs (effect c) S (effect-in S c taken)

-- one that both refuse, or neither
pub changed-own : (vid : ℕ) (needs : Needs) (S T : Settings) → part_of vid needs S ≡ part_of vid needs T → (c : Change) → refused S c ≡ refused T c → part_of vid needs (changed S c) ≡ part_of vid needs (changed T c)
changed-own vid needs S T h c alike = by (is_none (refused S c)) (is_none (refused T c)) refl refl (ap is_none alike)
  where
    by : (b d : Bool) → is_none (refused S c) ≡ b → is_none (refused T c) ≡ d → b ≡ d → part_of vid needs (cond b (accepted S c) S) ≡ part_of vid needs (cond d (accepted T c) T)
    by true true is other same = part-accepted vid needs S c is ∙ ap (part_applied vid (effect c)) h ∙ sym (part-accepted vid needs T c other)
    by false false is other same = h
    by true false is other same = absurd (false≢true (sym same))
    by false true is other same = absurd (false≢true same)

-- one that isn't the segment's own
pub changed-other : (vid : ℕ) (needs : Needs) (S : Settings) (c : Change) → is_own_change vid needs c ≡ false → part_of vid needs (changed S c) ≡ part_of vid needs S
changed-other vid needs S c other = by (is_none (refused S c)) refl
  where
    left : (b : Bool) → is_about vid c ≡ b → b && is_needed needs (effect c) ≡ false → part_applied vid (effect c) (part_of vid needs S) ≡ part_of vid needs S
    left true is h = unneeded-other vid needs S (effect c) h
    left false is h = part-other vid (effect c) (part_of vid needs S) (effect-other vid c is)

    by : (b : Bool) → is_none (refused S c) ≡ b → part_of vid needs (cond b (accepted S c) S) ≡ part_of vid needs S
    by true is = part-accepted vid needs S c is ∙ left (is_about vid c) refl other
    by false is = refl
