-- What the tests of a packet have to read, and what they tell.
use Rattle.std.proofs.Common.{◌≡◌, ◌∙◌, refl, sym, ap, ℕ, ◌==◌, Bool, true, false, cond, ◌||◌, nat_lt, is_none, List, [], ◌∷◌, ◌++◌, length, take, map, Option, Some, None, Result, option_map, option_and_then}
use Rattle.std.specs.List.{AllByRecursion, list_any, list_all}
use Rattle.std.proofs.lemmas.Bool.{false≢true, and_parts, or_right}
use Rattle.wire.specs.Octets.{part}
use Rattle.wire.specs.Ether.{Split, Untagged, WithTag, CutShort, tag_split}
use Rattle.wire.specs.First.{first, unless}
use Rattle.wire.specs.Reason.{number_of}
use Rattle.wire.specs.Refusal.{as_refused}
use Rattle.wire.specs.declared.ether.reason.Reason.{Reason}
use Rattle.wire.specs.declared.ether.reason.Reason.TheVariants.{ShortTunnel, NoVniFlag, BadVersion, Control, NotEthernet, BadOptions, CriticalOption}
use Rattle.wire.specs.declared.ether.reason.Reason.TheVariants.{UnknownVni, WrongGroup, UnknownPeer, InnerRunt, BadSource, Reserved, InnerTag}
use Rattle.wire.specs.declared.ether.reason.Refused.{Refused}
use Rattle.wire.proofs.FirstLemmas.{NothingHolds, first-nothing}
use Rattle.wire.specs.declared.ip_udp.addr.Tunnel.{Tunnel}
use Rattle.wire.specs.declared.ip_udp.addr.Tunnel.TheVariants.{Vxlan, Geneve}
use Rattle.wire.specs.IpParts.{Parts}
use Rattle.wire.specs.Udp.{data_of, is_bad_udp, udp_faults, udp_parts, sum_state}
use Rattle.wire.proofs.UdpLemmas.{found-udp, datagram-split, ReadsAs-from}
use Rattle.wire.specs.VxlanReading.{vxlan_faults, reason_of as vxlan_reason}
use Rattle.wire.specs.GeneveReading.{geneve_faults, reason_of as geneve_reason}
use Rattle.overlay.specs.declared.underlay.settings.Underlay.{Underlay}
use Rattle.overlay.specs.Overlay.{Overlay}
use Rattle.overlay.specs.UnderlaySettings.{kind_at}
use Rattle.decapsulate.specs.Arrival.{Packet, packet_in, arrival, arrival_by, capture_reasons, data_reasons, datagram_reasons, frame_reasons, inner_of, kind_to, outer_reasons, packet_reasons, sum_of, tunnel_reasons, vni_of}
use Rattle.decapsulate.specs.declared.arrived.Arrived.{Arrived}
use Rattle.decapsulate.proofs.PacketLemmas.{first-as_reasons}
use Rattle.endpoint_core.specs.Arrival.{came_by, tunnelled}
use Rattle.endpoint_core.specs.Arrival.{Arrival}
use Rattle.event_story.specs.Carried.{Carried}
use Rattle.event_story.specs.Ether.{header_fact, if_whole, tag_told, tag_fact}
use Rattle.event_story.specs.Packet.{packet_if, datagram_if, datagram_in, inner_if, kind_of}
use Rattle.event_story.specs.Tests.{refuses}
use Rattle.event_story.specs.declared.fact.Fact.{Fact}
use Rattle.event_story.specs.declared.fact.Fact.TheVariants as facts
use Rattle.story_laws.specs.Refusing.{is_packet_refusal}
use Rattle.story_laws.proofs.Refusals.{tells, Agree, among, unless-append}

-- ---- tables of reasons as tables of refusals

-- each as one in a segment, or in none
abbrev pub refused_rows : Option ℕ → List (Reason × Bool) → List (Refused × Bool)
refused_rows vid rows = map (λ (row : Reason × Bool). (record { segment = vid; reason = row.0 }, row.1)) rows

pub refused-first : (vid : Option ℕ) (rows : List (Reason × Bool)) → as_refused vid (first rows) ≡ first (refused_rows vid rows)
refused-first vid [] = refl
refused-first vid (row ∷ rows) = by (refused-first vid rows) row.1
  where
    by : as_refused vid (first rows) ≡ first (refused_rows vid rows) → (q : Bool)
        → as_refused vid (cond q (Some row.0) (first rows)) ≡ cond q (Some (record { segment = vid; reason = row.0 })) (first (refused_rows vid rows))
    by later true = refl
    by later false = later

pub tunnelled-unless : (o : Option Refused) (r : Result Arrived Refused) → tunnelled (unless o r) ≡ unless o (tunnelled r)
tunnelled-unless None r = refl
tunnelled-unless (Some refused) r = refl

-- the reasons before the tunnel header
abbrev pub front_reasons : Overlay → ℕ → List ℕ → List (Reason × Bool)
front_reasons S original b = capture_reasons original b ++ frame_reasons b ++ packet_reasons S.underlay (packet_in b) ++ datagram_reasons S.underlay (packet_in b)

-- what stands in a datagram to the port of a kind of tunnels
abbrev pub brought : Overlay → List ℕ → Option Tunnel → Result Arrival Refused
brought S b kind = tunnelled (arrival_by S kind (packet_in b).source (packet_in b).destination (data_of (packet_in b).payload))

-- the reasons of its tunnel header
abbrev pub head_reasons : Overlay → List ℕ → Option Tunnel → List (Reason × Bool)
head_reasons S b kind = data_reasons S.underlay.known kind (data_of (packet_in b).payload)

pub came-table : (S : Overlay) (original : ℕ) (b : List ℕ)
    → came_by S original b ≡ unless (first (refused_rows None (front_reasons S original b))) (unless (as_refused None (first (head_reasons S b (kind_to S.underlay (packet_in b))))) (brought S b (kind_to S.underlay (packet_in b))))
unfolding came_by
came-table S original b =
    let kind = kind_to S.underlay (packet_in b) in
    let rest = brought S b kind in
    let behind = arrival_by S kind (packet_in b).source (packet_in b).destination (data_of (packet_in b).payload) in
    tunnelled-unless (as_refused None (first (capture_reasons original b))) (arrival S b)
    ∙ ap (unless (as_refused None (first (capture_reasons original b)))) (tunnelled-unless (as_refused None (first (outer_reasons S b))) behind)
    ∙ (λ i. unless (refused-first None (capture_reasons original b) i) (unless (refused-first None (outer_reasons S b) i) rest))
    ∙ unless-append (refused_rows None (capture_reasons original b)) (refused_rows None (outer_reasons S b)) rest
    ∙ sym (unless-append (refused_rows None (front_reasons S original b)) (refused_rows None (head_reasons S b kind)) rest)
    ∙ ap (λ (o : Option Refused). unless (first (refused_rows None (front_reasons S original b))) (unless o rest)) (sym (refused-first None (head_reasons S b kind)))

-- ---- tests of which only the one that refuses tells something

-- none of these is it
abbrev NoneOf : Option Reason → List Reason → Type 0
NoneOf refusal us = AllByRecursion (λ u. refuses refusal u ≡ false) us

pub agree-front : (R : Fact → Bool) (saw : Reason → Option Fact) (refusal : Option Reason) (us ts : List Reason)
    → AllByRecursion (λ u. tells R (saw u) ≡ refuses refusal u) us → (NoneOf refusal us → Agree R saw refusal ts) → Agree R saw refusal (us ++ ts)
agree-front R saw refusal [] ts each rest = rest tt
agree-front R saw refusal (u ∷ us) ts each rest = (each.0, λ fails. agree-front R saw refusal us ts each.1 (λ others. rest (fails, others)))

pub among-front : (r : Reason) (us ts : List Reason) → among (Some r) us ≡ true → among (Some r) (us ++ ts) ≡ true
among-front r [] ts h = absurd (false≢true h)
among-front r (u ∷ us) ts h = by (λ k. among-front r us ts k) (number_of r == number_of u) h
  where
    by : (among (Some r) us ≡ true → among (Some r) (us ++ ts) ≡ true) → (q : Bool) → (q || among (Some r) us) ≡ true → (q || among (Some r) (us ++ ts)) ≡ true
    by later true h = refl
    by later false h = later h

pub among-behind : (refusal : Option Reason) (us ts : List Reason) → among refusal ts ≡ true → among refusal (us ++ ts) ≡ true
among-behind None us ts h = refl
among-behind (Some r) [] ts h = h
among-behind (Some r) (u ∷ us) ts h = or_right (number_of r == number_of u) (among (Some r) (us ++ ts)) (among-behind (Some r) us ts h)

pub none-among : (r : Reason) (us : List Reason) → NoneOf (Some r) us → among (Some r) us ≡ false
none-among r [] h = refl
none-among r (u ∷ us) h = (λ i. h.0 i || none-among r us h.1 i)

rows-among : (rows : List (Reason × Bool)) (us : List Reason) → list_all (λ row. list_any (λ u. number_of row.0 == number_of u) us) rows ≡ true → among (first rows) us ≡ true
rows-among [] us h = refl
rows-among (row ∷ rows) us h =
    let parts = and_parts (list_any (λ u. number_of row.0 == number_of u) us) (list_all (λ (row : Reason × Bool). list_any (λ u. number_of row.0 == number_of u) us) rows) h in
    by parts.0 (rows-among rows us parts.1) row.1
  where
    by : list_any (λ u. number_of row.0 == number_of u) us ≡ true → among (first rows) us ≡ true → (q : Bool) → among (cond q (Some row.0) (first rows)) us ≡ true
    by here later true = here
    by here later false = later

-- the tests of tunnel headers
abbrev pub head_tests : List Reason
head_tests = ShortTunnel ∷ NoVniFlag ∷ BadVersion ∷ Control ∷ NotEthernet ∷ BadOptions ∷ CriticalOption ∷ []

-- and those behind them
abbrev pub inner_tests : List Reason
inner_tests = UnknownVni ∷ WrongGroup ∷ UnknownPeer ∷ InnerRunt ∷ BadSource ∷ Reserved ∷ InnerTag ∷ []

pub heads-among : (known : List (ℕ × ℕ)) (kind : Tunnel) (d : List ℕ) → among (first (tunnel_reasons known kind d)) head_tests ≡ true
heads-among known Vxlan d = rows-among (tunnel_reasons known Vxlan d) head_tests refl
heads-among known Geneve d = rows-among (tunnel_reasons known Geneve d) head_tests refl

-- ---- facts

pub quiet-map : {A : Type 0} (U : Underlay) (f : A → Fact) (o : Option A) → ((x : A) → is_packet_refusal U (f x) ≡ false) → tells (is_packet_refusal U) (option_map f o) ≡ false
quiet-map U f None h = refl
quiet-map U f (Some x) h = h x

pub quiet-then : {A : Type 0} (U : Underlay) (f : A → Option Fact) (o : Option A) → ((x : A) → tells (is_packet_refusal U) (f x) ≡ false) → tells (is_packet_refusal U) (option_and_then f o) ≡ false
quiet-then U f None h = refl
quiet-then U f (Some x) h = h x

-- what only a test that refuses tells
pub quiet-if : (U : Underlay) (f : Fact) (q : Bool) → q ≡ false → tells (is_packet_refusal U) (cond q (Some f) None) ≡ false
quiet-if U f q h = ap (λ (p : Bool). tells (is_packet_refusal U) (cond p (Some f) None)) h

-- what else is told where it doesn't
pub quiet-else : (U : Underlay) (f : Fact) (o : Option Fact) (q : Bool) → q ≡ false → tells (is_packet_refusal U) o ≡ false → tells (is_packet_refusal U) (cond q (Some f) o) ≡ false
quiet-else U f o q h k = ap (λ (p : Bool). tells (is_packet_refusal U) (cond p (Some f) o)) h ∙ k

-- the addresses of a frame, or that they are cut
pub header-told : (U : Underlay) (e : List ℕ) (q : Bool) → nat_lt (length e) 14 ≡ q → is_packet_refusal U (header_fact e) ≡ is_packet_refusal U (cond q (facts.Short (length e)) (facts.Ether (part 6 6 e) (take 6 e)))
header-told U e q is = ap (λ (p : Bool). is_packet_refusal U (cond p (facts.Short (length e)) (facts.Ether (part 6 6 e) (take 6 e)))) is

pub whole : (U : Underlay) (e : List ℕ) (f : Fact) → nat_lt (length e) 14 ≡ false → tells (is_packet_refusal U) (if_whole e f) ≡ is_packet_refusal U f
whole U e f is = ap (λ (p : Bool). tells (is_packet_refusal U) (cond p None (Some f))) is

-- no tag of a frame in a tunnel refuses by itself
tag-quiet : (U : Underlay) (split : Split) → is_packet_refusal U (tag_told split) ≡ false
tag-quiet U (Untagged body) = refl
tag-quiet U (WithTag tci body) = refl
tag-quiet U CutShort = refl

pub tag-fact-quiet : (U : Underlay) (e : List ℕ) → tells (is_packet_refusal U) (tag_fact e) ≡ false
tag-fact-quiet U e = by (nat_lt (length e) 14)
  where
    by : (q : Bool) → tells (is_packet_refusal U) (cond q None (Some (tag_told (tag_split e)))) ≡ false
    by true = refl
    by false = tag-quiet U (tag_split e)

-- ---- what there is to read

pub packet-there : (b : List ℕ) → NothingHolds (frame_reasons b) → packet_if b ≡ Some (packet_in b)
packet-there b none = ap (λ (o : Option Reason). cond (is_none o) (Some (packet_in b)) None) (first-nothing (frame_reasons b) none)

datagram-if-there : (p : List ℕ) → is_bad_udp p ≡ false → datagram_if p ≡ Some (udp_parts p)
datagram-if-there p good = ap (λ o. cond (is_none o) (Some (udp_parts p)) None) (first-nothing (udp_faults p) (good, tt))

-- the datagram in a frame
abbrev pub found_in : List ℕ → Packet × Parts
found_in b = (packet_in b, udp_parts (packet_in b).payload)

pub datagram-there : (b : List ℕ) → NothingHolds (frame_reasons b) → is_bad_udp (packet_in b).payload ≡ false → datagram_in b ≡ Some (found_in b)
datagram-there b none good =
    ap (option_and_then (λ (p : Packet). option_map (λ (d : Parts). (p, d)) (datagram_if p.payload))) (packet-there b none)
    ∙ ap (option_map (λ (d : Parts). (packet_in b, d))) (datagram-if-there (packet_in b).payload good)

pub kind-there : (U : Underlay) (b : List ℕ) → is_bad_udp (packet_in b).payload ≡ false → kind_of U (found_in b) ≡ kind_to U (packet_in b)
kind-there U b good = ap (kind_at U) (sym (ReadsAs-from (packet_in b).payload (udp_parts (packet_in b).payload) (found-udp (packet_in b).payload good)).dport_is)

pub sum-there : (b : List ℕ) → is_bad_udp (packet_in b).payload ≡ false → sum_state (packet_in b).source (packet_in b).destination ((udp_parts (packet_in b).payload).head ++ (udp_parts (packet_in b).payload).payload) ≡ sum_of (packet_in b)
sum-there b good =
    let p = (packet_in b).payload in
    ap (sum_state (packet_in b).source (packet_in b).destination) (sym (datagram-split p (udp_parts p) (found-udp p good)))

none-mapped : {A : Type 0} (f : A → Reason) (o : Option A) → option_map f o ≡ None → is_none o ≡ true
none-mapped f None h = refl
none-mapped f (Some x) h = absurd cc

-- what a tunnel header stands before
abbrev pub carried_of : Tunnel → List ℕ → Carried
carried_of kind d = record { kind = kind; vni = vni_of kind d; inner = inner_of kind d }

pub inner-there : (known : List (ℕ × ℕ)) (kind : Tunnel) (d : List ℕ) → first (tunnel_reasons known kind d) ≡ None → inner_if known d kind ≡ Some (carried_of kind d)
inner-there known Vxlan d none =
    ap (λ (q : Bool). cond q (Some (carried_of Vxlan d)) None) (none-mapped vxlan_reason (first (vxlan_faults d)) (sym (first-as_reasons vxlan_reason (vxlan_faults d)) ∙ none))
inner-there known Geneve d none =
    ap (λ (q : Bool). cond q (Some (carried_of Geneve d)) None) (none-mapped geneve_reason (first (geneve_faults known d)) (sym (first-as_reasons geneve_reason (geneve_faults known d)) ∙ none))
