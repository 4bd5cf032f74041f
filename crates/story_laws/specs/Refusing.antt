-- Which facts refuse, by the values that they tell. It states no standard.
--     is_refusal      a fact that a test of a frame or a packet tells is one that the test refuses
--     is_packet_refusal      the same of a packet of the underlay, by the endpoint's own settings
--     RefusesAs      of the facts that are told none refuses, or the last alone
use Rattle.std.specs.Prelude.{◌≡◌, ◌==◌, nat_lt, not, ◌||◌, is_none, Bool, true, false, List, [], ◌∷◌, ◌++◌, Result, Ok, Err}
use Rattle.std.specs.List.{AllByRecursion}
use Rattle.wire.specs.declared.ether.reason.Refused.{Refused}
use Rattle.overlay.specs.declared.underlay.settings.Underlay.{Underlay}
use Rattle.decapsulate.specs.Arrival.{is_wrong}
use Rattle.endpoint_core.specs.Arrival.{Arrival}
use Rattle.event_story.specs.declared.fact.Fact.{Fact}
use Rattle.event_story.specs.declared.fact.Fact.TheVariants as facts

-- ---- one fact

-- its own value is one that is refused. What the bridge knows of a frame, and how it leaves, is told only of one that came to a
-- segment, and refuses nothing here
abbrev pub is_refusal : Fact → Bool
is_refusal (facts.Length octets most) = nat_lt most octets
is_refusal (facts.Captured octets original) = nat_lt octets original
is_refusal (facts.Short octets) = true
is_refusal (facts.Source group) = group
is_refusal (facts.Destination group reserved) = reserved
is_refusal (facts.Port port up) = not up
is_refusal facts.CutTag = true
is_refusal facts.ReservedVid = true
is_refusal (facts.Accepts port tagged taken) = not taken
is_refusal (facts.NoSegment vid by_tag) = true
is_refusal (facts.Member port egress) = is_none egress
is_refusal facts.InnerTag = true
is_refusal facts.NotIp = true
is_refusal facts.BadIp = true
is_refusal facts.BadIpSum = true
is_refusal (facts.Sender other) = not other
is_refusal (facts.Receiver group own) = not (group || own)
is_refusal facts.Fragment = true
is_refusal (facts.Protocol number) = not (number == 17)
is_refusal facts.BadUdp = true
is_refusal (facts.TunnelPort kind) = is_none kind
is_refusal facts.NoSum = true
is_refusal (facts.Header kind reason) = true
is_refusal (facts.NoVni kind vni) = true
is_refusal (facts.Group listed) = not listed
is_refusal (facts.Peer listed) = not listed
is_refusal fact = false

-- the same of a packet of the underlay, but for two facts: a checksum that was left to the sender's card is refused unless the
-- settings take it, which its words don't tell; and a tag that is cut short in a tunnel is a part of the frame as any other,
-- where the segment passes tags
abbrev pub is_packet_refusal : Underlay → Fact → Bool
is_packet_refusal U facts.CutTag = false
is_packet_refusal U (facts.Sum state) = is_wrong U state
is_packet_refusal U fact = is_refusal fact

-- ---- those that are told

-- none of them refuses
abbrev pub NoneRefuses : (Fact → Bool) → List Fact → Type 0
NoneRefuses refuses fs = AllByRecursion (λ f. refuses f ≡ false) fs

-- the last of them refuses, and none before it does
pub record LastRefuses (refuses : Fact → Bool) (fs : List Fact) : Type 0 where
  pub before : List Fact
  pub last : Fact
  pub facts_are : fs ≡ before ++ last ∷ []
  pub none_before : NoneRefuses refuses before
  pub last_refuses : refuses last ≡ true

-- where a frame or a packet came to a segment, none of them refuses; where it was refused, the last does, and no other
abbrev pub RefusesAs : (Fact → Bool) → Result Arrival Refused → List Fact → Type 0
RefusesAs refuses (Ok x) fs = NoneRefuses refuses fs
RefusesAs refuses (Err refused) fs = LastRefuses refuses fs
