-- What is a segment's own, in some cases.
use Rattle.std.proofs.Common.{◌≡◌, ◌∙◌, refl, ap, ◌==◌, Bool, false, cond, [], ◌∷◌}
use Rattle.overlay.specs.Settings.{Settings as Told}
use Rattle.overlay.specs.declared.settings.segment.SegmentRule.{SegmentRule}
use Rattle.overlay.specs.declared.underlay.limits.Limits.{Limits}
use Rattle.overlay.specs.declared.settings.change.Change.TheVariants.{SetLearning, PortDown, Flush, RemoveSegment, SetLimit}
use Rattle.endpoint_core.specs.Settings.{Settings}
use Rattle.endpoint_core.specs.Effect.{Goes, without_segment}
use Rattle.endpoint_core.specs.Change.{refused, changed}
use Rattle.endpoint_core.specs.Arrival.{came_at, came_by}
use Rattle.endpoint_core.specs.Event.{frame_at, packet_at, change_at}
use Rattle.tenants_apart.specs.Own.{Needs, everything, part_of, own_events, room_replies}
use Rattle.tenants_apart.specs.Texts.{TellAlike}
use Rattle.tenants_apart.proofs.Changing.{part-applied, part-other}

-- a segment that needs port 2 alone
abbrev two : Needs
two = record everything { ports = λ port. port == 2 }

-- changes that name another segment go, also those by which it gets another limit or goes, and those of other ports
row_changes : (S : Settings) → own_events 10 two S (change_at 1 (SetLimit 20 5) ∷ change_at 2 (Flush 10) ∷ change_at 3 (RemoveSegment 20) ∷ change_at 4 (PortDown 2) ∷ change_at 5 (PortDown 3) ∷ change_at 6 (SetLearning 20 false) ∷ [])
    ≡ change_at 2 (Flush 10) ∷ change_at 4 (PortDown 2) ∷ []
row_changes S = refl

-- frames and packets that are too short for any segment go
row_runts : (S : Settings) → own_events 10 two S (frame_at 1 1 0 [] ∷ packet_at 2 0 [] ∷ change_at 3 (Flush 10) ∷ []) ≡ change_at 3 (Flush 10) ∷ []
unfolding came_at came_by
row_runts S = refl

-- only its own limit needs an answer, by what the other's left
row_replies : (S : Settings) → room_replies 10 S (change_at 1 (SetLimit 20 5) ∷ change_at 2 (SetLimit 10 7) ∷ change_at 3 (Flush 10) ∷ []) ≡ refused (changed S (SetLimit 20 5)) (SetLimit 10 7) ∷ []
row_replies S = refl

-- another segment goes
row_settings : (needs : Needs) (S : Settings) → part_of 10 needs (without_segment S 20) ≡ part_of 10 needs S
row_settings needs S = part-applied 10 needs (Goes 20) S tt ∙ part-other 10 (Goes 20) (part_of 10 needs S) refl

-- a text with another segment, with room for 300 of them, and one without, whose pools differ
row_texts : (needs : Needs) (s : Told) (own other : SegmentRule) → (10 == other.vid) ≡ false
    → (let limits : Limits = record s.underlay.limits { segments = 300 } in let s_of_two : Told = record s { underlay = record s.underlay { limits = limits }; segments = own ∷ other ∷ []; pool = 600 } in let s_of_one : Told = record s { segments = own ∷ [] } in TellAlike 10 needs s_of_two s_of_one)
row_texts needs s own other apart = record {
  shared = refl;
  ports = λ port needed. refl;
  segment = ap (λ (b : Bool). cond (10 == own.vid) (own ∷ cond b (other ∷ []) []) (cond b (other ∷ []) [])) apart;
}
