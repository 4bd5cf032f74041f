-- Everything is enough for a segment.
use Rattle.std.proofs.Common.{◌≡◌, refl, sym, ℕ, true, cond, List, [], ◌∷◌, None}
use Rattle.std.proofs.lemmas.Bool.{false≢true}
use Rattle.std.specs.List.{AllByRecursion}
use Rattle.overlay.specs.declared.settings.change.Target.TheVariants as target
use Rattle.overlay.specs.declared.settings.change.Change.{Change}
use Rattle.overlay.specs.declared.settings.change.Change.TheVariants.{AddFlood, RemoveFlood, Fix, Unfix, SetAgeing, SetLearning, SetMember, PortUp, PortDown, Flush, AddSegment, RemoveSegment, SetLimit}
use Rattle.filter_db.specs.declared.place.Place.{Place}
use Rattle.filter_db.specs.declared.place.Place.TheVariants.{Local, Remote}
use Rattle.overlay.specs.Ports.{Ports, members_at}
use Rattle.overlay.specs.Overlay.{segment_at as overlay_segment}
use Rattle.endpoint_core.specs.Decision.{Sent}
use Rattle.endpoint_core.specs.Event.{Input, FrameAt, Packet, Asks, Event}
use Rattle.endpoint_core.specs.Run.{settings_after_input}
use Rattle.endpoint_core.specs.Settings.{Settings}
use Rattle.endpoint_core.specs.Step.{Answer, Decided, Replied, opened}
use Rattle.noninterference.specs.Leaving.{Row}
use Rattle.tenants_apart.specs.Own.{Needs, everything, shared_of, port_there, part_of, AreMembers, own_rows, asks_within, is_within, AreWithin, is_reached, IsReached, IsEnough}

asked : (S : Settings) (c : Change) → asks_within everything S c ≡ true
asked S (AddFlood vid addr tunnel) = refl
asked S (RemoveFlood vid addr tunnel) = refl
asked S (Fix vid mac (target.Local port)) = refl
asked S (Fix vid mac (target.Remote addr tunnel)) = refl
asked S (Unfix vid mac) = refl
asked S (SetAgeing vid seconds) = refl
asked S (SetLearning vid on) = refl
asked S (SetMember vid port egress) = refl
asked S (PortUp port) = refl
asked S (PortDown port) = refl
asked S (Flush vid) = refl
asked S (AddSegment new) = refl
asked S (RemoveSegment vid) = refl
asked S (SetLimit vid limit) = refl

pub within : (S : Settings) (i : Input) → is_within everything S i ≡ true
within S (FrameAt port original b) = refl
within S (Packet original b) = refl
within S (Asks c) = asked S c

pub within-for : (vid : ℕ) (S : Settings) (es : List Event) → AreWithin vid everything S es
within-for vid S [] = tt
within-for vid S (e ∷ es) = (λ own. within S e.input, within-for vid (settings_after_input S e.input) es)

there : (place : Place) → is_reached everything place ≡ true
there (Local port) = refl
there (Remote kind addr) = refl

all-there : (os : List Sent) → AllByRecursion (λ (o : Sent). is_reached everything o.place ≡ true) os
all-there [] = tt
all-there (o ∷ os) = (there o.place, all-there os)

reached : (a : Answer) → IsReached everything a
reached (Decided decision) = all-there decision.outcomes
reached (Replied fault) = tt

all-reached : (rs : List Row) → AllByRecursion (λ (row : Row). IsReached everything row.reply) rs
all-reached [] = tt
all-reached (r ∷ rs) = (reached r.reply, all-reached rs)

pub members-for : (vid : ℕ) (S : Settings) → AreMembers vid everything S
members-for vid S port never = absurd (false≢true (sym never))

pub enough-for : (vid : ℕ) (S : Settings) (es : List Event) → IsEnough vid everything S es
enough-for vid S es = record { members = members-for vid S; changes = within-for vid S es; remotes = all-reached (own_rows vid everything (opened S) es) }

-- ---- settings with the same underlay and the same ports

pub part-same : (vid : ℕ) (needs : Needs) (S T : Settings) → S.overlay.underlay ≡ T.overlay.underlay → S.ports.ports ≡ T.ports.ports → members_at S.ports vid ≡ members_at T.ports vid → overlay_segment S.overlay vid ≡ overlay_segment T.overlay vid
    → S.bridges vid ≡ T.bridges vid → part_of vid needs S ≡ part_of vid needs T
part-same vid needs S T underlay ports members tunnels bridge = λ i. record {
  shared = shared_of needs (underlay i);
  ports = λ port. cond (needs.ports port) (port_there (let P : Ports = record { ports = ports i; segments = S.ports.segments } in P) port) None;
  members = members i;
  tunnels = tunnels i;
  bridge = bridge i;
}
