-- Where settings and changes know no segments but by VIDs, a run tells of no others.
use Rattle.std.proofs.Common.{◌≡◌, ℕ, zero, suc, ◌+◌, ◌==◌, not, Bool, true, false, cond, List, [], ◌∷◌, ◌++◌, map, Option, Some, None, Result, Ok, refl, sym, ap, ◌∙◌, subst}
use Rattle.std.specs.Prelude.{is_none, is_some, slice_index_or}
use Rattle.std.specs.List.{AllByRecursion, zip}
use Rattle.std.specs.Option.{option_map_or}
use Rattle.std.specs.Ordering.{nat_cmp}
use Rattle.std.specs.FinMap.{FinMap, empty, get, insert, remove}
use Rattle.std.proofs.lemmas.Bool.{eqb-true, false≢true}
use Rattle.wire.specs.First.{first, unless}
use Rattle.wire.specs.Refusal.{as_refused}
use Rattle.wire.specs.Frame.{Frame}
use Rattle.wire.specs.Tag.{IsVid}
use Rattle.wire.specs.declared.ether.reason.Reason.{Reason}
use Rattle.wire.specs.declared.ether.reason.Reason.TheVariants.{BadVid, FrameType, NoSegment, NotMember}
use Rattle.wire.specs.declared.ether.reason.Refused.{Refused}
use Rattle.wire.specs.declared.ip_udp.addr.Addr.{Addr}
use Rattle.wire.specs.declared.ip_udp.addr.Tunnel.{Tunnel}
use Rattle.overlay.specs.Ports as ports
use Rattle.overlay.specs.Ports.{Ports, port_at, egress_at}
use Rattle.overlay.specs.Ingress.{nowhere, within, text_reasons, tag_vid, accepts, reasons, vid_at, frame_in, enters}
use Rattle.overlay.proofs.PlacesLemmas.{get-insert_at, get-remove_at}
use Rattle.overlay.specs.Overlay as overlay
use Rattle.overlay.specs.Overlay.{Overlay, flooding, segment_by}
use Rattle.overlay.specs.declared.underlay.segment.Segment.{Segment}
use Rattle.overlay.specs.Flood.{Entries}
use Rattle.decapsulate.specs.declared.arrived.Arrived.{Arrived}
use Rattle.decapsulate.specs.Arrival as arrival
use Rattle.decapsulate.specs.Arrival.{arrival_in, arrival_by, arrival_of, outer_reasons, inner_reasons, packet_in, kind_to, vni_of, inner_of}
use Rattle.wire.specs.Udp.{data_of}
use Rattle.timeline.specs.declared.event.Event.{Event as Happens}
use Rattle.timeline.specs.declared.event.Happening.{Happening}
use Rattle.timeline.specs.declared.event.Happening.TheVariants as happenings
use Rattle.timeline.specs.declared.source.Tap.TheVariants as taps
use Rattle.overlay.specs.Rules.{MeetsRules}
use Rattle.overlay.specs.Settings.{Settings as Rules}
use Rattle.overlay.specs.declared.settings.change.Change.{Change}
use Rattle.overlay.specs.declared.settings.change.Change.TheVariants.{AddFlood, RemoveFlood, SetMember, AddSegment}
use Rattle.endpoint_core.specs.Settings.{Settings, SegmentSettings, segment_at}
use Rattle.endpoint_core.specs.Effect.{Effect, ToFlood, ToBridge, ToLimit, ToMembers, ToPort, Comes, Goes, ToNothing, effect, applied}
use Rattle.endpoint_core.specs.Change.{refused, accepted, changed}
use Rattle.endpoint_core.specs.Opened.{settings_told}
use Rattle.endpoint_core.proofs.OpenLemmas.{sound-opened}
use Rattle.endpoint_core.specs.Arrival.{Arrival}
use Rattle.endpoint_core.specs.Arrival.{capture_reasons, entered, let_in, came_at, came_by}
use Rattle.endpoint_core.proofs.LetIn.{let_in-segment}
use Rattle.endpoint_core.specs.Event.{Input, FrameAt, Packet, Asks, Event}
use Rattle.endpoint_core.specs.Run.{settings_after_input, settings_after, bridges_at, decisions}
use Rattle.capture_run.specs.Outputs.{no_change, input_of, event_of}
use Rattle.noninterference.proofs.Coming.{by-entered, by-tunnelled}
use Rattle.noninterference.proofs.Entering.{segment_entered}
use Rattle.noninterference.proofs.Arriving.{segment_arrived}
use Rattle.noninterference.proofs.Finding.{found_at}
use Rattle.endpoint_core.specs.Among.{segment_of, segment_in}
use Rattle.segment_parts.specs.Pieces.{Told, told_from, IsAsked, HasVids, NamesVid}
use Rattle.segment_parts.proofs.Telling.{told_in-is}

-- ---- by a local port

-- each refusal of a table, and what there is where none holds
entered-rows : (rows : List (Refused × Bool)) (found : ℕ × Frame) → AllByRecursion (λ (row : Refused × Bool). IsAsked row.0.segment) rows → IsVid found.0 → IsAsked (segment_entered (unless (first rows) (Ok found)))
entered-rows [] found all own = own
entered-rows (row ∷ rows) found all own = by row.1 (entered-rows rows found all.1 own)
  where
    by : (b : Bool) → IsAsked (segment_entered (unless (first rows) (Ok found))) → IsAsked (segment_entered (unless (cond b (Some row.0) (first rows)) (Ok found)))
    by true rest = all.0
    by false rest = rest

-- some refusals, and behind them one that holds
entered-none : (rows rest : List (Refused × Bool)) (found : ℕ × Frame) → AllByRecursion (λ (row : Refused × Bool). IsAsked row.0.segment) rows → IsAsked (segment_entered (unless (first (rows ++ (nowhere NoSegment, true) ∷ rest)) (Ok found)))
entered-none [] rest found all = tt
entered-none (row ∷ rows) rest found all = by row.1 (entered-none rows rest found all.1)
  where
    by : (b : Bool) → IsAsked (segment_entered (unless (first (rows ++ (nowhere NoSegment, true) ∷ rest)) (Ok found)))
        → IsAsked (segment_entered (unless (cond b (Some row.0) (first (rows ++ (nowhere NoSegment, true) ∷ rest))) (Ok found)))
    by true more = all.0
    by false more = more

enters-asked : (P : Ports) (port : ℕ) (b : List ℕ) → ((vid : ℕ) → ports.has_segment P vid ≡ true → IsVid vid) → IsAsked (segment_entered (enters P port b))
enters-asked P port b vids = by (ports.has_segment P (vid_at P port b)) refl
  where
    k : ℕ
    k = vid_at P port b

    early : List (Refused × Bool)
    early = text_reasons P port b ++ (nowhere BadVid, tag_vid b == 4095) ∷ (nowhere FrameType, not (accepts (port_at P port).accept (tag_vid b))) ∷ []

    late : List (Refused × Bool)
    late = (within k NotMember, is_none (egress_at P k port)) ∷ []

    by : (c : Bool) → ports.has_segment P k ≡ c → IsAsked (segment_entered (enters P port b))
    by true is = entered-rows (reasons P port b) (k, frame_in b) (tt, (tt, (tt, (tt, (tt, (tt, (tt, (tt, (vids k is, tt))))))))) (vids k is)
    by false is =
        subst (λ (c : Bool). IsAsked (segment_entered (unless (first (early ++ (nowhere NoSegment, not c) ∷ late)) (Ok (k, frame_in b))))) (sym is)
        (entered-none early late (k, frame_in b) (tt, (tt, (tt, (tt, (tt, (tt, (tt, tt))))))))

came-rows : (rows : List (Refused × Bool)) (r : Result Arrival Refused) → AllByRecursion (λ (row : Refused × Bool). IsAsked row.0.segment) rows → IsAsked (segment_of r) → IsAsked (segment_of (unless (first rows) r))
came-rows [] r all own = own
came-rows (row ∷ rows) r all own = by row.1 (came-rows rows r all.1 own)
  where
    by : (b : Bool) → IsAsked (segment_of (unless (first rows) r)) → IsAsked (segment_of (unless (cond b (Some row.0) (first rows)) r))
    by true rest = all.0
    by false rest = rest

came_at-asked : (P : Ports) (S : Overlay) (port original : ℕ) (b : List ℕ) → ((vid : ℕ) → ports.has_segment P vid ≡ true → IsVid vid) → IsAsked (segment_of (came_at P S port original b))
unfolding came_at
came_at-asked P S port original b vids =
    came-rows (capture_reasons original b) (let_in S (entered port (enters P port b))) (tt, (tt, tt))
    (subst IsAsked (sym (let_in-segment S (entered port (enters P port b)))) (subst IsAsked (sym (by-entered port (enters P port b))) (enters-asked P port b vids)))

-- ---- by a tunnel

arrived-unless : (o : Option Reason) (v : Option ℕ) (r : Result Arrived Refused) → IsAsked v → IsAsked (segment_arrived r) → IsAsked (segment_arrived (unless (as_refused v o) r))
arrived-unless (Some reason) v r within_it own = within_it
arrived-unless None v r within_it own = own

arrived-in : (found : Option (ℕ × Segment)) (kind : Tunnel) (a b : Addr) (e : List ℕ) → ((g : ℕ × Segment) → found ≡ Some g → IsVid g.0) → IsAsked (segment_arrived (arrival_in found kind a b e))
arrived-in None kind a b e vids = tt
arrived-in (Some g) kind a b e vids = arrived-unless (first (inner_reasons g.1 kind a b e)) (Some g.0) _ (vids g refl) (vids g refl)

-- what is found stands there
found-there : (S : Overlay) (kind : Tunnel) (vni : ℕ) (g : ℕ × Segment) → segment_by S kind vni ≡ Some g → overlay.has_segment S g.0 ≡ true
found-there S kind vni g is = ap is_some (found_at S kind vni g is)

module _ (S : Overlay) (vids : (vid : ℕ) → overlay.has_segment S vid ≡ true → IsVid vid) where
  arrived-by : (kind : Option Tunnel) (a b : Addr) (d : List ℕ) → IsAsked (segment_arrived (arrival_by S kind a b d))
  arrived-by None a b d = tt
  arrived-by (Some kind) a b d = arrived-in (segment_by S kind (vni_of kind d)) kind a b (inner_of kind d) (λ g is. vids g.0 (found-there S kind (vni_of kind d) g is))

  arrived-asked : (original : ℕ) (b : List ℕ) → IsAsked (segment_arrived (arrival_of S original b))
  arrived-asked original b =
      let p = packet_in b in
      arrived-unless (first (arrival.capture_reasons original b)) None _ tt
      (arrived-unless (first (outer_reasons S b)) None _ tt (arrived-by (kind_to S.underlay p) p.source p.destination (data_of p.payload)))

  came_by-asked : (original : ℕ) (b : List ℕ) → IsAsked (segment_of (came_by S original b))
  unfolding came_by
  came_by-asked original b = subst IsAsked (sym (by-tunnelled (arrival_of S original b))) (arrived-asked original b)

-- ---- what an event tells of

-- a change names no segment but by its VID
abbrev Names : Input → Type 0
Names (FrameAt port original b) = Unit {0}
Names (Packet original b) = Unit {0}
Names (Asks c) = NamesVid c

segment-asked : (S : Settings) (i : Input) → HasVids S → Names i → IsAsked (segment_in S i)
segment-asked S (FrameAt port original b) h own = came_at-asked S.ports S.overlay port original b h.members
segment-asked S (Packet original b) h own = came_by-asked S.overlay h.tunnels original b
segment-asked S (Asks c) h own = own

-- ---- the settings after it

module _ {X : Type 0} (P : ℕ → Type 0) (m : FinMap nat_cmp X) (each : (w : ℕ) → is_some (get m w) ≡ true → P w) where
  -- one key more
  keys-insert : (v : ℕ) (x : X) → P v → (w : ℕ) → is_some (get (insert m v x) w) ≡ true → P w
  keys-insert v x own w there = by (w == v) refl
    where
      by : (b : Bool) → (w == v) ≡ b → P w
      by true same = subst P (sym (eqb-true w v same)) own
      by false other = each w (sym (ap is_some (get-insert_at m v x w ∙ ap (λ (b : Bool). cond b (Some x) (get m w)) other)) ∙ there)

  keys-remove : (v : ℕ) → (w : ℕ) → is_some (get (remove m v) w) ≡ true → P w
  keys-remove v w there = by (w == v) refl
    where
      by : (b : Bool) → (w == v) ≡ b → P w
      by true same = absurd (false≢true (sym (ap is_some (get-remove_at m v w ∙ ap (λ (b : Bool). cond b None (get m w)) same)) ∙ there))
      by false other = each w (sym (ap is_some (get-remove_at m v w ∙ ap (λ (b : Bool). cond b None (get m w)) other)) ∙ there)

-- a change is to no segment but by its VID
abbrev ToVid : Effect → Type 0
ToVid (ToFlood vid change) = IsVid vid
ToVid (ToMembers vid port egress) = IsVid vid
ToVid (Comes new) = IsVid new.vid
ToVid e = Unit {0}

effect-vid : (c : Change) → NamesVid c → ToVid (effect c)
effect-vid (AddFlood vid addr tunnel) own = own
effect-vid (RemoveFlood vid addr tunnel) own = own
effect-vid (SetMember vid port egress) own = own
effect-vid (AddSegment new) own = own
effect-vid c own = tt

flooding-vids : (segments : overlay.Segments) (v : ℕ) (flood : Entries) → IsVid v → ((w : ℕ) → is_some (get segments w) ≡ true → IsVid w) → (w : ℕ) → is_some (get (flooding segments v flood) w) ≡ true → IsVid w
flooding-vids segments v flood own each = by (get segments v)
  where
    by : (o : Option Segment) → (w : ℕ) → is_some (get (option_map_or (λ (g : Segment). insert segments v (let h : Segment = record g { flood = flood } in h)) o segments) w) ≡ true → IsVid w
    by None = each
    by (Some g) = keys-insert IsVid segments each v _ own

applied-vids : (e : Effect) (S : Settings) → HasVids S → ToVid e → HasVids (applied e S)
applied-vids (ToFlood v change) S h own = by (segment_at S v)
  where
    by : (o : Option SegmentSettings) → HasVids (option_map_or (λ (s : SegmentSettings). let left : Settings = record S { overlay = overlay.with_flood S.overlay v (change s) } in left) o S)
    by None = h
    by (Some s) = record { members = h.members; tunnels = flooding-vids S.overlay.segments v (change s) own h.tunnels }
applied-vids (ToBridge v change) S h own = record { members = h.members; tunnels = h.tunnels }
applied-vids (ToLimit v limit) S h own = record { members = h.members; tunnels = h.tunnels }
applied-vids (ToMembers v port egress) S h own = record { members = keys-insert IsVid S.ports.segments h.members v _ own; tunnels = h.tunnels }
applied-vids (ToPort port up) S h own = record { members = h.members; tunnels = h.tunnels }
applied-vids (Comes new) S h own = record {
  members = keys-insert IsVid S.ports.segments h.members new.vid empty own;
  tunnels = keys-insert IsVid S.overlay.segments h.tunnels new.vid _ own;
}
applied-vids (Goes v) S h own = record {
  members = keys-remove IsVid S.ports.segments h.members v;
  tunnels = keys-remove IsVid S.overlay.segments h.tunnels v;
}
applied-vids ToNothing S h own = h

changed-vids : (S : Settings) (c : Change) → HasVids S → NamesVid c → HasVids (changed S c)
changed-vids S c h own = by (is_none (refused S c))
  where
    by : (b : Bool) → HasVids (cond b (accepted S c) S)
    by true = applied-vids (effect c) S h (effect-vid c own)
    by false = h

after-vids : (S : Settings) (i : Input) → HasVids S → Names i → HasVids (settings_after_input S i)
after-vids S (FrameAt port original b) h own = h
after-vids S (Packet original b) h own = h
after-vids S (Asks c) h own = changed-vids S c h own

after-push : (S : Settings) (before : List Event) (e : Event) → settings_after S (before ++ e ∷ []) ≡ settings_after_input (settings_after S before) e.input
after-push S [] e = refl
after-push S (x ∷ before) e = after-push (settings_after_input S x.input) before e

-- ---- a run

-- what is in a list, or stands for what isn't
all-index : {A : Type 0} (P : A → Type 0) (xs : List A) (index : ℕ) (d : A) → AllByRecursion P xs → P d → P (slice_index_or xs index d)
all-index P [] index d all other = other
all-index P (x ∷ xs) zero d all other = all.0
all-index P (x ∷ xs) (suc index) d all other = all-index P xs index d all.1 other

names-input : (changes : List Change) (h : Happening) → AllByRecursion NamesVid changes → Names (input_of changes h)
names-input changes (happenings.Change index) all = all-index NamesVid changes index no_change all tt
names-input changes (happenings.Record (taps.Port port) captured) all = tt
names-input changes (happenings.Record taps.Underlay captured) all = tt

told-from : (S : Settings) (changes : List Change) → AllByRecursion NamesVid changes → (count : ℕ) (before : List Event) → HasVids (settings_after S before) → (es : List Happens)
    → AllByRecursion (λ (t : Told). IsAsked t.segment) (told_from changes count (zip es (decisions S before (map (event_of changes) es))))
told-from S changes all count before h [] = tt
told-from S changes all count before h (e ∷ es) =
    let x = event_of changes e in
    let own : Names (input_of changes e.happening) = names-input changes e.happening all in (
      subst IsAsked (sym (told_in-is e.moment (bridges_at e.moment S before) (input_of changes e.happening))) (segment-asked (settings_after S before) (input_of changes e.happening) h own),
      told-from S changes all (count + 1) (before ++ x ∷ []) (subst HasVids (sym (after-push S before x)) (after-vids (settings_after S before) x.input h own)) es,
    )

-- all that a run tells of can be asked for
pub told-asked : (S : Settings) (changes : List Change) → HasVids S → AllByRecursion NamesVid changes → (es : List Happens)
    → AllByRecursion (λ (t : Told). IsAsked t.segment) (told_from changes 0 (zip es (decisions S [] (map (event_of changes) es))))
told-asked S changes h all es = told-from S changes all 0 [] h es

-- settings that meet the rules
pub vids-told : (s : Rules) → MeetsRules s → HasVids (settings_told s)
vids-told s rules =
    let sound = sound-opened s rules in
    record {
      members = λ vid there. sound.vids vid (sym (sound.members vid) ∙ there);
      tunnels = λ vid there. sound.vids vid (sym (sound.tunnels vid) ∙ there);
    }
