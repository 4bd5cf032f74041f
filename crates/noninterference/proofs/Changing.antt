-- What a change makes of what a segment sees.
use Rattle.std.proofs.Common.{◌≡◌, ℕ, ◌-◌, ◌==◌, Bool, true, false, cond, ◌||◌, Option, Some, None, refl, sym, ap, ◌∙◌, subst}
use Rattle.std.specs.Prelude.{is_none, is_some, slice_set, slice_index_or}
use Rattle.std.specs.Option.{option_map, option_map_or, unwrap_or}
use Rattle.std.specs.FinMap.{empty, get, insert}
use Rattle.std.proofs.Math.Path.{fun_ext}
use Rattle.std.proofs.lemmas.Bool.{false≢true, eqb-true, eq-eqb}
use Rattle.overlay.specs.Flood.{Entries}
use Rattle.overlay.specs.Ports.{Ports, Members, no_port, members_at, has_segment, member_set, with_member}
use Rattle.overlay.specs.declared.ports.member.Egress.{Egress}
use Rattle.overlay.specs.declared.ports.port.PortRule.{PortRule}
use Rattle.overlay.proofs.PlacesLemmas.{get-insert_at, get-insert_same, get-remove_at}
use Rattle.overlay.specs.Overlay.{Segments, segment_of, flooding, with_flood}
use Rattle.overlay.specs.declared.underlay.segment.Segment.{Segment}
use Rattle.overlay.specs.declared.settings.change.NewSegment.{NewSegment}
use Rattle.overlay.specs.declared.settings.change.Change.{Change}
use Rattle.endpoint_core.specs.Settings.{Settings, BridgeSettings, SegmentSettings, segment_at}
use Rattle.endpoint_core.specs.Effect.{Effect, ToFlood, ToBridge, ToLimit, ToMembers, ToPort, Comes, Goes, ToNothing, effect, with_flood_of, with_bridge, new_tunnels, new_bridge, with_segment, without_segment, applied}
use Rattle.endpoint_core.specs.Change.{is_about, refused, accepted, changed}
use Rattle.endpoint_core.proofs.EffectLemmas.{is_to, effect-other, IsThere, effect-there}
use Rattle.noninterference.specs.Alone.{all_see}
use Rattle.noninterference.proofs.Finding.{tunnels}
use Rattle.noninterference.proofs.Seeing.{Seen, seen, limit_of, own_of}
use Rattle.noninterference.proofs.Refusing.{refused-same}

-- ---- a flood list

abbrev flooded : Entries → Segment → Segment
flooded flood g = record g { flood = flood }

chosen_some : (segments : Segments) (v : ℕ) (g : Segment) (w : ℕ) → get (insert segments v g) w ≡ cond (w == v) (Some g) (get segments w)
chosen_some segments v g w = get-insert_at segments v g w

-- the segment itself
flooding-own : (segments : Segments) (v : ℕ) (flood : Entries) → get (flooding segments v flood) v ≡ option_map (flooded flood) (get segments v)
flooding-own segments v flood = by (get segments v) refl
  where
    by : (o : Option Segment) → get segments v ≡ o → get (option_map_or (λ g. insert segments v (flooded flood g)) o segments) v ≡ option_map (flooded flood) o
    by None is = is
    by (Some g) is = chosen_some segments v (flooded flood g) v ∙ ap (λ (b : Bool). cond b (Some (flooded flood g)) (get segments v)) (eq-eqb v v refl)

-- another segment
flooding-other : (segments : Segments) (v : ℕ) (flood : Entries) (w : ℕ) → (w == v) ≡ false → get (flooding segments v flood) w ≡ get segments w
flooding-other segments v flood w other = by (get segments v)
  where
    by : (o : Option Segment) → get (option_map_or (λ g. insert segments v (flooded flood g)) o segments) w ≡ get segments w
    by None = refl
    by (Some g) = chosen_some segments v (flooded flood g) w ∙ ap (λ (b : Bool). cond b (Some (flooded flood g)) (get segments w)) other

-- no tunnel changes
flooding-tunnels : (segments : Segments) (v : ℕ) (flood : Entries) (w : ℕ) → option_map tunnels (get (flooding segments v flood) w) ≡ option_map tunnels (get segments w)
flooding-tunnels segments v flood w = by (w == v) refl
  where
    kept : (o : Option Segment) → option_map tunnels (option_map (flooded flood) o) ≡ option_map tunnels o
    kept None = refl
    kept (Some g) = refl

    by : (b : Bool) → (w == v) ≡ b → option_map tunnels (get (flooding segments v flood) w) ≡ option_map tunnels (get segments w)
    by true same =
        subst (λ (u : ℕ). option_map tunnels (get (flooding segments v flood) u) ≡ option_map tunnels (get segments u)) (sym (eqb-true w v same))
        (ap (option_map tunnels) (flooding-own segments v flood) ∙ kept (get segments v))
    by false other = ap (option_map tunnels) (flooding-other segments v flood w other)

abbrev flooded_by : (SegmentSettings → Entries) → Option SegmentSettings → Seen → Seen
flooded_by flood None x = x
flooded_by flood (Some s) x = record x { segment = option_map (flooded (flood s)) x.segment }

abbrev flood_set : Settings → ℕ → (SegmentSettings → Entries) → Option SegmentSettings → Settings
flood_set S v flood o = option_map_or (λ s. let left : Settings = record S { overlay = with_flood S.overlay v (flood s) } in left) o S

seen-flooded : (S : Settings) (v : ℕ) (flood : SegmentSettings → Entries) (o : Option SegmentSettings) → seen v (flood_set S v flood o) ≡ flooded_by flood o (seen v S)
seen-flooded S v flood None = refl
seen-flooded S v flood (Some s) = λ i.
    let x : Seen = seen v S in
    record x {
      tunnels = fun_ext (flooding-tunnels S.overlay.segments v (flood s)) i;
      segment = flooding-own S.overlay.segments v (flood s) i;
    }

seen-flooded_other : (vid v : ℕ) (S : Settings) (flood : SegmentSettings → Entries) (o : Option SegmentSettings) → (vid == v) ≡ false → seen vid (flood_set S v flood o) ≡ seen vid S
seen-flooded_other vid v S flood None other = refl
seen-flooded_other vid v S flood (Some s) other = λ i.
    let x : Seen = seen vid S in
    record x {
      tunnels = fun_ext (flooding-tunnels S.overlay.segments v (flood s)) i;
      segment = flooding-other S.overlay.segments v (flood s) vid other i;
    }

-- ---- the rules of a bridge

abbrev bridge_set : (BridgeSettings → BridgeSettings) → ℕ → ℕ → Option BridgeSettings → Option BridgeSettings
bridge_set change v w o = cond (w == v) (option_map change o) o

-- no limit changes
limit-set : (change : BridgeSettings → BridgeSettings) → ((b : BridgeSettings) → (change b).limit ≡ b.limit) → (c : Bool) (o : Option BridgeSettings) → limit_of (cond c (option_map change o) o) ≡ limit_of o
limit-set change keeps true None = refl
limit-set change keeps true (Some b) = ap Some (keeps b)
limit-set change keeps false o = refl

seen-bridge : (vid v : ℕ) (S : Settings) (change : BridgeSettings → BridgeSettings) → ((b : BridgeSettings) → (change b).limit ≡ b.limit) → seen vid (with_bridge S v change) ≡ (let x : Seen = seen vid S in record x { bridge = bridge_set change v vid x.bridge })
seen-bridge vid v S change keeps = λ i.
    let x : Seen = seen vid S in
    record x {
      limits = fun_ext (λ w. limit-set change keeps (w == v) (S.bridges w)) i;
      bridge = bridge_set change v vid (S.bridges vid);
    }

-- ---- members

-- with a port a member of it, or no member
abbrev joining : ℕ → Option Egress → Option Members → Members
joining port egress members = member_set (unwrap_or members empty) port egress

abbrev joined_by : ℕ → Option Egress → Seen → Seen
joined_by port egress x = record x { members = Some (joining port egress x.members) }

abbrev with_members : Settings → ℕ → ℕ → Option Egress → Settings
with_members S v port egress = record S { ports = with_member S.ports v port egress }

member-own : (P : Ports) (v port : ℕ) (egress : Option Egress) → members_at (with_member P v port egress) v ≡ Some (joining port egress (members_at P v))
member-own P v port egress = get-insert_same P.segments v (joining port egress (members_at P v))

member-other : (P : Ports) (v port : ℕ) (egress : Option Egress) (w : ℕ) → (w == v) ≡ false → members_at (with_member P v port egress) w ≡ members_at P w
member-other P v port egress w other =
    get-insert_at P.segments v (joining port egress (members_at P v)) w
    ∙ ap (λ (b : Bool). cond b (Some (joining port egress (members_at P v))) (get P.segments w)) other

-- the segments stay
member-stands : (P : Ports) (v port : ℕ) (egress : Option Egress) → is_some (members_at P v) ≡ true → (w : ℕ) → has_segment (with_member P v port egress) w ≡ has_segment P w
member-stands P v port egress there w = by (w == v) refl
  where
    by : (b : Bool) → (w == v) ≡ b → has_segment (with_member P v port egress) w ≡ has_segment P w
    by true same =
        subst (λ (u : ℕ). has_segment (with_member P v port egress) u ≡ has_segment P u) (sym (eqb-true w v same))
        (ap is_some (member-own P v port egress) ∙ sym there)
    by false other = ap is_some (member-other P v port egress w other)

seen-member : (v port : ℕ) (egress : Option Egress) (S : Settings) → is_some (members_at S.ports v) ≡ true → seen v (with_members S v port egress) ≡ joined_by port egress (seen v S)
seen-member v port egress S there = λ i.
    let x : Seen = seen v S in
    record x {
      stands = fun_ext (member-stands S.ports v port egress there) i;
      members = member-own S.ports v port egress i;
    }

member_other : (vid v port : ℕ) (egress : Option Egress) (S : Settings) → is_some (members_at S.ports v) ≡ true → (vid == v) ≡ false → seen vid (with_members S v port egress) ≡ seen vid S
member_other vid v port egress S there other = λ i.
    let x : Seen = seen vid S in
    record x {
      stands = fun_ext (member-stands S.ports v port egress there) i;
      members = member-other S.ports v port egress vid other i;
    }

-- ---- ports

abbrev ports_set : ℕ → Bool → Seen → Seen
ports_set port up x = record x { ports = slice_set x.ports (port - 1) (let p : PortRule = slice_index_or x.ports (port - 1) no_port in record p { up = up }) }

-- ---- an effect

-- what the segment of a VID sees after an effect, by what it saw before
abbrev see_applied : ℕ → Effect → Seen → Seen
see_applied vid (ToFlood v change) x = cond (vid == v) (flooded_by change (own_of x) x) x
see_applied vid (ToBridge v change) x = record x { bridge = bridge_set (λ b. record (change b) { limit = b.limit }) v vid x.bridge }
see_applied vid (ToLimit v limit) x = record x {
  limits = λ w. cond (w == v) (option_map (λ l. limit) (x.limits w)) (x.limits w);
  bridge = bridge_set (λ b. record b { limit = limit }) v vid x.bridge;
}
see_applied vid (ToMembers v port egress) x = cond (vid == v) (joined_by port egress x) x
see_applied vid (ToPort port up) x = ports_set port up x
see_applied vid (Comes new) x = record x {
  stands = λ w. cond (w == new.vid) true (x.stands w);
  tunnels = λ w. cond (w == new.vid) (Some new.tunnels) (x.tunnels w);
  limits = λ w. cond (w == new.vid) (Some new.limit) (x.limits w);
  members = cond (vid == new.vid) (Some empty) x.members;
  segment = cond (vid == new.vid) (Some (segment_of (new_tunnels new))) x.segment;
  bridge = cond (vid == new.vid) (Some (new_bridge new)) x.bridge;
}
see_applied vid (Goes v) x = record x {
  stands = λ w. cond (w == v) false (x.stands w);
  tunnels = λ w. cond (w == v) None (x.tunnels w);
  limits = λ w. cond (w == v) None (x.limits w);
  members = cond (vid == v) None x.members;
  segment = cond (vid == v) None x.segment;
  bridge = cond (vid == v) None x.bridge;
}
see_applied vid ToNothing x = x

-- a function of what stands somewhere, chosen
chosen : {X Y : Type 0} (f : X → Y) (b : Bool) (x y : X) → f (cond b x y) ≡ cond b (f x) (f y)
chosen f true x y = refl
chosen f false x y = refl

limited : (b : Bool) (limit : ℕ) (o : Option BridgeSettings) → limit_of (cond b (option_map (λ (r : BridgeSettings). let left : BridgeSettings = record r { limit = limit } in left) o) o) ≡ cond b (option_map (λ l. limit) (limit_of o)) (limit_of o)
limited true limit None = refl
limited true limit (Some r) = refl
limited false limit o = refl

seen-limited : (vid v limit : ℕ) (S : Settings) → seen vid (applied (ToLimit v limit) S) ≡ see_applied vid (ToLimit v limit) (seen vid S)
seen-limited vid v limit S = λ i.
    let x : Seen = seen vid S in
    record x {
      limits = fun_ext (λ w. limited (w == v) limit (S.bridges w)) i;
      bridge = bridge_set (λ b. record b { limit = limit }) v vid (S.bridges vid);
    }

seen-comes : (vid : ℕ) (new : NewSegment) (S : Settings) → seen vid (with_segment S new) ≡ see_applied vid (Comes new) (seen vid S)
seen-comes vid new S = λ i.
    let x : Seen = seen vid S in
    record x {
      stands = fun_ext (λ w. ap is_some (get-insert_at S.ports.segments new.vid empty w) ∙ chosen is_some (w == new.vid) (Some empty) (members_at S.ports w)) i;
      tunnels = fun_ext (λ w. ap (option_map tunnels) (get-insert_at S.overlay.segments new.vid (segment_of (new_tunnels new)) w) ∙ chosen (option_map tunnels) (w == new.vid) (Some (segment_of (new_tunnels new))) (get S.overlay.segments w)) i;
      limits = fun_ext (λ w. chosen limit_of (w == new.vid) (Some (new_bridge new)) (S.bridges w)) i;
      members = get-insert_at S.ports.segments new.vid empty vid i;
      segment = get-insert_at S.overlay.segments new.vid (segment_of (new_tunnels new)) vid i;
      bridge = cond (vid == new.vid) (Some (new_bridge new)) (S.bridges vid);
    }

seen-goes : (vid v : ℕ) (S : Settings) → seen vid (without_segment S v) ≡ see_applied vid (Goes v) (seen vid S)
seen-goes vid v S = λ i.
    let x : Seen = seen vid S in
    record x {
      stands = fun_ext (λ w. ap is_some (get-remove_at S.ports.segments v w) ∙ chosen is_some (w == v) None (members_at S.ports w)) i;
      tunnels = fun_ext (λ w. ap (option_map tunnels) (get-remove_at S.overlay.segments v w) ∙ chosen (option_map tunnels) (w == v) None (get S.overlay.segments w)) i;
      limits = fun_ext (λ w. chosen limit_of (w == v) None (S.bridges w)) i;
      members = get-remove_at S.ports.segments v vid i;
      segment = get-remove_at S.overlay.segments v vid i;
      bridge = cond (vid == v) None (S.bridges vid);
    }

seen-applied : (vid : ℕ) (e : Effect) (S : Settings) → IsThere S e → seen vid (applied e S) ≡ see_applied vid e (seen vid S)
seen-applied vid (ToFlood v change) S there = by (vid == v) refl
  where
    by : (b : Bool) → (vid == v) ≡ b → seen vid (with_flood_of S v change) ≡ cond b (flooded_by change (own_of (seen vid S)) (seen vid S)) (seen vid S)
    by true same =
        subst (λ (u : ℕ). seen u (with_flood_of S v change) ≡ flooded_by change (own_of (seen u S)) (seen u S)) (sym (eqb-true vid v same))
        (seen-flooded S v change (segment_at S v))
    by false other = seen-flooded_other vid v S change (segment_at S v) other
seen-applied vid (ToBridge v change) S there = seen-bridge vid v S (λ b. let left : BridgeSettings = record (change b) { limit = b.limit } in left) (λ b. refl)
seen-applied vid (ToLimit v limit) S there = seen-limited vid v limit S
seen-applied vid (ToMembers v port egress) S there = by (vid == v) refl
  where
    by : (b : Bool) → (vid == v) ≡ b → seen vid (with_members S v port egress) ≡ cond b (joined_by port egress (seen vid S)) (seen vid S)
    by true same =
        subst (λ (u : ℕ). seen u (with_members S v port egress) ≡ joined_by port egress (seen u S)) (sym (eqb-true vid v same))
        (seen-member v port egress S there)
    by false other = member_other vid v port egress S there other
seen-applied vid (ToPort port up) S there = refl
seen-applied vid (Comes new) S there = seen-comes vid new S
seen-applied vid (Goes v) S there = seen-goes vid v S
seen-applied vid ToNothing S there = refl

-- one that is neither to the segment nor seen by every segment
see_applied-other : (vid : ℕ) (e : Effect) (x : Seen) → is_to vid e ≡ false → all_see e ≡ false → see_applied vid e x ≡ x
see_applied-other vid (ToFlood v change) x other unseen = ap (λ (b : Bool). cond b (flooded_by change (own_of x) x) x) other
see_applied-other vid (ToBridge v change) x other unseen =
    ap (λ (b : Bool). let y : Seen = record x { bridge = cond b (option_map (λ (r : BridgeSettings). let left : BridgeSettings = record (change r) { limit = r.limit } in left) x.bridge) x.bridge } in y) other
see_applied-other vid (ToMembers v port egress) x other unseen = ap (λ (b : Bool). cond b (joined_by port egress x) x) other
see_applied-other vid ToNothing x other unseen = refl
see_applied-other vid e x other unseen = absurd (false≢true (sym unseen))

-- ---- the settings after a change that they don't refuse

accepted-same : (vid : ℕ) (S T : Settings) → seen vid S ≡ seen vid T → (c : Change) → is_none (refused S c) ≡ true → is_none (refused T c) ≡ true → seen vid (accepted S c) ≡ seen vid (accepted T c)
accepted-same vid S T h c in_S in_T =
    seen-applied vid (effect c) S (effect-there S c in_S) ∙ ap (see_applied vid (effect c)) h ∙ sym (seen-applied vid (effect c) T (effect-there T c in_T))

accepted-other : (vid : ℕ) (S : Settings) (c : Change) → is_about vid c ≡ false → all_see (effect c) ≡ false → is_none (refused S c) ≡ true → seen vid (accepted S c) ≡ seen vid S
accepted-other vid S c other unseen taken =
    seen-applied vid (effect c) S (effect-there S c taken) ∙ see_applied-other vid (effect c) (seen vid S) (effect-other vid c other) unseen

-- ---- the settings after any change

-- a change that concerns the segment
pub changed-same : (vid : ℕ) (S T : Settings) → seen vid S ≡ seen vid T → (c : Change) → is_about vid c || all_see (effect c) ≡ true → seen vid (changed S c) ≡ seen vid (changed T c)
changed-same vid S T h c about = by (is_none (refused S c)) (is_none (refused T c)) refl (ap is_none (refused-same vid S T h c about))
  where
    by : (b d : Bool) → is_none (refused S c) ≡ b → b ≡ d → seen vid (cond b (accepted S c) S) ≡ seen vid (cond d (accepted T c) T)
    by true true is same = accepted-same vid S T h c is (sym (ap is_none (refused-same vid S T h c about)) ∙ is)
    by false false is same = h
    by true false is same = absurd (false≢true (sym same))
    by false true is same = absurd (false≢true same)

-- one that doesn't
pub changed-other : (vid : ℕ) (S : Settings) (c : Change) → is_about vid c ≡ false → all_see (effect c) ≡ false → seen vid (changed S c) ≡ seen vid S
changed-other vid S c other unseen = by (is_none (refused S c)) refl
  where
    by : (b : Bool) → is_none (refused S c) ≡ b → seen vid (cond b (accepted S c) S) ≡ seen vid S
    by true is = accepted-other vid S c other unseen is
    by false is = refl
