-- What was asked of a segment one by one is what there is to tell of it.
use Rattle.std.proofs.Common.{◌≡◌, ◌∙◌, ap, refl, ℕ, Bool, true, false, not, [], Option, Some, None, IsSome}
use Rattle.std.specs.Prelude.{IfSome, is_none, if◌then◌else◌}
use Rattle.std.specs.Option.{option_map_or}
use Rattle.std.specs.FinMap.{get, len}
use Rattle.std.proofs.lemmas.Bool.{false≢true}
use Rattle.wire.specs.Address.{is_group}
use Rattle.wire.specs.declared.ether.reason.Reason.{Reason}
use Rattle.filter_db.specs.declared.entry.Entry.{Entry}
use Rattle.filter_db.specs.declared.place.Place.{Place}
use Rattle.filter_db.specs.Table.{Table, nanoseconds}
use Rattle.overlay.specs.Ports.{Ports}
use Rattle.overlay.specs.declared.ports.member.Egress.{Egress}
use Rattle.tunnel_learning.specs.Bridge.{Config}
use Rattle.endpoint_core.specs.Settings.{SegmentSettings}
use Rattle.endpoint_core.specs.StateStep.{config_of}
use Rattle.endpoint_core.specs.Arrival.{Arrival}
use Rattle.event_story.specs.Bridge.{bridge_told, stood_fact, told_in}
use Rattle.event_story.specs.declared.fact.Fact.{Fact}
use Rattle.event_story.specs.declared.fact.Fact.TheVariants as facts

pub bridge-told : (t : ℕ) (ports : Ports) (left before behind : Table) (x : Arrival) (dropped : Option Reason) (o : Option SegmentSettings)
    (c : Config) (limit span entries : ℕ) (from : Place) (source kept stood : Option Entry) (group : Bool) (known : Fact)
    → IsSome o → IfSome o (λ s. c ≡ config_of ports s) → IfSome o (λ s. limit ≡ s.limit) → IfSome o (λ s. span ≡ nanoseconds s.ageing)
    → entries ≡ len before → from ≡ x.from → source ≡ get before x.frame.src → kept ≡ get left x.frame.dst → stood ≡ get behind x.frame.dst
    → group ≡ is_group x.frame.dst → known ≡ stood_fact t span kept stood
    → bridge_told c limit entries from source group stood known dropped ≡ option_map_or (told_in t ports left before behind x dropped) o []
bridge-told t ports left before behind x dropped None c limit span entries from source kept stood group known there cfg lim sp ent fr src kp st grp kn = absurd (false≢true there)
bridge-told t ports left before behind x dropped (Some s) c limit span entries from source kept stood group known there cfg lim sp ent fr src kp st grp kn =
    ap (λ (k : Fact). bridge_told c limit entries from source group stood k dropped) kn
    ∙ (λ i. bridge_told (cfg i) (lim i) (ent i) (fr i) (src i) (grp i) (st i) (stood_fact t (sp i) (kp i) (st i)) dropped)

-- a port that is up and no member
pub no-member : (port : ℕ) (up : Bool) (egress : Option Egress) → up ≡ true → egress ≡ None
    → Some (facts.NoMembers port port)
    ≡ (if not up then Some (facts.PortsDown port port) else if is_none egress then Some (facts.NoMembers port port) else None)
no-member port false egress is none = absurd (false≢true is)
no-member port true None is none = refl
no-member port true (Some e) is none = absurd (cc)
