-- What is told of a packet of the underlay refuses where the packet is refused.
use Rattle.std.proofs.Common.{◌≡◌, ◌∙◌, refl, sym, ap, subst, ℕ, Bool, true, false, cond, not, nat_lt, is_none, List, [], ◌∷◌, ◌++◌, length, take, drop, Option, Some, None, Result, Ok, Err, option_map, option_and_then}
use Rattle.std.specs.List.{AllByRecursion}
use Rattle.std.specs.Cmp.{nat_cmp_total}
use Rattle.std.specs.FinMap.{entries, entries_sorted, get-entries}
use Rattle.std.proofs.lemmas.Bool.{false≢true, and_parts}
use Rattle.wire.specs.Octets.{part}
use Rattle.wire.specs.Address.{is_group as is_group_mac, is_reserved}
use Rattle.wire.specs.First.{first, unless}
use Rattle.wire.specs.Frame.{frame_of}
use Rattle.wire.specs.Refusal.{as_refused}
use Rattle.wire.specs.declared.ether.reason.Reason.{Reason}
use Rattle.wire.specs.declared.ether.reason.Reason.TheVariants.{ShortTunnel, NoVniFlag, BadVersion, Control, NotEthernet, BadOptions, CriticalOption}
use Rattle.wire.specs.declared.ether.reason.Reason.TheVariants.{UnknownVni, WrongGroup, UnknownPeer, InnerRunt, BadSource, Reserved, InnerTag}
use Rattle.wire.specs.declared.ether.reason.Refused.{Refused}
use Rattle.wire.proofs.FirstLemmas.{NothingHolds}
use Rattle.filter_db.specs.declared.place.Place.TheVariants.{Remote}
use Rattle.wire.specs.declared.ip_udp.addr.Tunnel.{Tunnel}
use Rattle.wire.specs.Addr.{is_group}
use Rattle.wire.specs.IpParts.{Parts}
use Rattle.wire.specs.Udp.{data_of, is_bad_udp}
use Rattle.overlay.specs.declared.underlay.segment.Segment.{Segment}
use Rattle.overlay.specs.declared.underlay.settings.Underlay.{Underlay}
use Rattle.overlay.specs.Overlay.{Overlay, floods, has_tunnel, is_listed, segment_at, segment_by}
use Rattle.overlay.proofs.CountLemmas.{found_where}
use Rattle.decapsulate.specs.Arrival.{Packet, packet_in, arrival_in, datagram_reasons, frame_reasons, inner_of, inner_reasons, is_wrong, kind_to, packet_reasons, tunnel_reasons, vni_of}
use Rattle.endpoint_core.specs.Among.{segment_of}
use Rattle.endpoint_core.specs.Arrival.{came_by, tunnelled}
use Rattle.endpoint_core.specs.Arrival.{Arrival}
use Rattle.event_story.specs.Carried.{Carried}
use Rattle.event_story.specs.Ether.{header_fact, source_fact, destination_fact, tag_fact}
use Rattle.event_story.specs.Packet.{packet_fact, packet_facts, packet_facts_of, packet_tests, packet_if, datagram_in, inner_if, carried_in, carried_by, kind_of, ip_fact, udp_fact, receiver_fact, sum_fact, header_fact_of, vni_fact, group_fact, peer_fact}
use Rattle.event_story.specs.Tests.{refusal_of, refuses}
use Rattle.event_story.specs.declared.fact.Fact.{Fact}
use Rattle.event_story.specs.declared.fact.Fact.TheVariants as facts
use Rattle.story_laws.specs.Refusing.{is_packet_refusal, RefusesAs}
use Rattle.story_laws.proofs.Refusals.{tells, Good, Rows, among, pass, stop, rows-good, told-as}
use Rattle.story_laws.proofs.PacketTests.{refused_rows, refused-first, tunnelled-unless, front_reasons, brought, head_reasons, came-table, agree-front, among-front, among-behind, none-among, head_tests, inner_tests, heads-among, quiet-map, quiet-then, quiet-if, quiet-else, header-told, whole, tag-fact-quiet, packet-there, found_in, datagram-there, kind-there, sum-there, carried_of, inner-there}

-- ---- each test

module _ (S : Overlay) (original : ℕ) (b : List ℕ) where
  abbrev U : Underlay
  U = S.underlay

  abbrev R : Fact → Bool
  R = is_packet_refusal S.underlay

  -- the fact of a test
  abbrev saw : Result Arrival Refused → Reason → Option Fact
  saw came t = packet_fact S original b came t

  -- the packet, and the data of its datagram
  abbrev p : Packet
  p = packet_in b

  abbrev d : List ℕ
  d = data_of (packet_in b).payload

  -- the facts of a group and of a sender that are for the segment
  group-quiet : (group fails : Bool) → fails ≡ false → tells R (cond group (Some (facts.Group (not fails))) None) ≡ false
  group-quiet true fails is = ap (λ (q : Bool). not (not q)) is
  group-quiet false fails is = refl

  peer-quiet : (listed fails : Bool) → fails ≡ false → R (cond listed (facts.Peer (not fails)) facts.AnyPeer) ≡ false
  peer-quiet true fails is = ap (λ (q : Bool). not (not q)) is
  peer-quiet false fails is = refl

  -- a refusal in a segment names it, as what comes to it does
  segment-known : (rows : List (Reason × Bool)) (x : Arrival) → segment_of (unless (first (refused_rows (Some x.vid) rows)) (Ok x)) ≡ Some x.vid
  segment-known [] x = refl
  segment-known (row ∷ rows) x = by (segment-known rows x) row.1
    where
      by : segment_of (unless (first (refused_rows (Some x.vid) rows)) (Ok x)) ≡ Some x.vid → (q : Bool)
          → segment_of (unless (cond q (Some (record { segment = Some x.vid; reason = row.0 })) (first (refused_rows (Some x.vid) rows))) (Ok x)) ≡ Some x.vid
      by later true = refl
      by later false = later

  -- the tests of a segment, from the group on
  abbrev segment_tests : List Reason
  segment_tests = WrongGroup ∷ UnknownPeer ∷ InnerRunt ∷ BadSource ∷ Reserved ∷ InnerTag ∷ []

  -- a frame from the sender in its segment
  abbrev comer : Tunnel → ℕ → Arrival
  comer kind vid = record { vid = vid; from = Remote kind p.source; frame = frame_of (inner_of kind d) }

  abbrev segment_rows : Tunnel → ℕ → Segment → List (Refused × Bool)
  segment_rows kind vid g = refused_rows (Some vid) (inner_reasons g kind p.source p.destination (inner_of kind d))

  inner-rows : (kind : Tunnel) (vid : ℕ) (g : Segment) → packet_if b ≡ Some p → carried_in S b ≡ Some (carried_of kind d) → segment_at S vid ≡ Some g
      → Rows R saw (segment_rows kind vid g) (Ok (comer kind vid)) []
  inner-rows kind vid g packet carried segment =
      let e = inner_of kind d in
      let behind = λ (n : ℕ). unless (first (drop n (segment_rows kind vid g))) (Ok (comer kind vid)) in
      let head = ap (λ (o : Option Carried). tells R (option_map (λ (x : Carried). header_fact x.inner) o)) carried in
      let sender = λ (long : nat_lt (length e) 14 ≡ false). ap (λ (o : Option Carried). tells R (option_and_then (λ (x : Carried). source_fact x.inner) o)) carried ∙ whole U e (facts.Source (is_group_mac (part 6 6 e))) long in
      let receiver = λ (long : nat_lt (length e) 14 ≡ false). ap (λ (o : Option Carried). tells R (option_and_then (λ (x : Carried). destination_fact x.inner) o)) carried ∙ whole U e (facts.Destination (is_group_mac (take 6 e)) (is_reserved (take 6 e))) long in (
        λ h. ap (λ (o : Option Packet). tells R (option_and_then (group_fact (Err (record { segment = Some vid; reason = WrongGroup }))) o)) packet
            ∙ ap (λ (q : Bool). tells R (cond q (Some (facts.Group false)) None)) (and_parts (is_group p.destination) (not (floods g kind p.destination)) h).0,
        λ _. (
          λ fails. quiet-then U (group_fact (behind 1)) (packet_if b) (λ (x : Packet). group-quiet (is_group x.destination) (refuses (refusal_of (behind 1)) WrongGroup) fails),
          (
            λ h. ap (λ (o : Option Segment). tells R (option_map (peer_fact (Err (record { segment = Some vid; reason = UnknownPeer }))) o)) segment
                ∙ ap (λ (q : Bool). R (cond q (facts.Peer false) facts.AnyPeer)) (and_parts (is_listed g) (not (floods g kind p.source)) h).0,
            λ _. (
              λ fails. quiet-map U (peer_fact (behind 2)) (option_and_then (segment_at S) (segment_of (behind 2))) (λ (x : Segment). peer-quiet (is_listed x) (refuses (refusal_of (behind 2)) UnknownPeer) fails),
              (
                λ h. head ∙ header-told U e true h,
                λ long. (
                  λ _. head ∙ header-told U e false long,
                  (
                    λ h. sender long ∙ h,
                    λ one. (
                      λ _. sender long ∙ one,
                      (
                        λ h. receiver long ∙ h,
                        λ free. (
                          λ _. receiver long ∙ free,
                          (
                            λ _. refl,
                            λ _. (
                              λ fails. quiet-else U facts.InnerTag (option_and_then (λ (x : Carried). tag_fact x.inner) (carried_in S b)) _ fails
                                  (quiet-then U (λ (x : Carried). tag_fact x.inner) (carried_in S b) (λ x. tag-fact-quiet U x.inner)),
                              record { agree = refl; among = refl },
                            ),
                          ),
                        ),
                      ),
                    ),
                  ),
                ),
              ),
            ),
          ),
        ),
      )

  -- the tests of what a tunnel brings, in its segment
  segment-good : (kind : Tunnel) (vid : ℕ) (g : Segment) → packet_if b ≡ Some p → carried_in S b ≡ Some (carried_of kind d) → segment_at S vid ≡ Some g
      → Good R saw (tunnelled (arrival_in (Some (vid, g)) kind p.source p.destination (inner_of kind d))) inner_tests
  segment-good kind vid g packet carried segment =
      let rows = inner_reasons g kind p.source p.destination (inner_of kind d) in
      let x = comer kind vid in
      let table : Result Arrival Refused = unless (first (segment_rows kind vid g)) (Ok x) in
      let is : tunnelled (arrival_in (Some (vid, g)) kind p.source p.destination (inner_of kind d)) ≡ table =
      tunnelled-unless (as_refused (Some vid) (first rows)) (Ok (record { vid = vid; from = (kind, p.source); frame = frame_of (inner_of kind d) }))
      ∙ ap (λ (o : Option Refused). unless o (Ok x)) (refused-first (Some vid) rows) in
      let known = ap (λ (o : Option ℕ). tells R (option_map (vni_fact o) (carried_in S b))) (segment-known rows x) ∙ quiet-map U (vni_fact (Some vid)) (carried_in S b) (λ _. refl) in
      subst (λ (came : Result Arrival Refused). Good R saw came inner_tests) (sym is)
      (pass R saw table UnknownVni segment_tests refl (λ _. known) (rows-good R saw (segment_rows kind vid g) (Ok x) [] refl (inner-rows kind vid g packet carried segment)))

  -- and in none
  brought-good : (kind : Tunnel) → packet_if b ≡ Some p → carried_in S b ≡ Some (carried_of kind d) → Good R saw (brought S b (Some kind)) inner_tests
  brought-good kind packet carried = by (segment_by S kind (vni_of kind d)) refl
    where
      by : (o : Option (ℕ × Segment)) → segment_by S kind (vni_of kind d) ≡ o → Good R saw (tunnelled (arrival_in o kind p.source p.destination (inner_of kind d))) inner_tests
      by None is = stop R saw (record { segment = None; reason = UnknownVni }) segment_tests (ap (λ (o : Option Carried). tells R (option_map (vni_fact None) o)) carried)
      by (Some found) is =
          let at = found_where nat_cmp_total (has_tunnel kind (vni_of kind d)) (entries S.segments) found (entries_sorted S.segments) is in
          segment-good kind found.0 found.1 packet carried (get-entries S.segments found.0 ∙ at.0)

  -- the tests of a tunnel header
  head-told : (kind : Tunnel) → option_and_then (kind_of U) (datagram_in b) ≡ Some kind → (u : Reason) (q : Bool) → tells R (cond q (header_fact_of S b u) None) ≡ q
  head-told kind is u true = ap (λ (o : Option Tunnel). tells R (option_map (λ (k : Tunnel). facts.Header k u) o)) is
  head-told kind is u false = refl

  heads-told : (kind : Tunnel) → option_and_then (kind_of U) (datagram_in b) ≡ Some kind → (came : Result Arrival Refused)
      → AllByRecursion (λ u. tells R (saw came u) ≡ refuses (refusal_of came) u) head_tests
  heads-told kind is came =
      let one = λ (u : Reason). head-told kind is u (refuses (refusal_of came) u) in
      (one ShortTunnel, (one NoVniFlag, (one BadVersion, (one Control, (one NotEthernet, (one BadOptions, (one CriticalOption, tt)))))))

  head-good : (kind : Tunnel) → packet_if b ≡ Some p → datagram_in b ≡ Some (found_in b) → kind_of U (found_in b) ≡ Some kind
      → Good R saw (unless (as_refused None (first (head_reasons S b (Some kind)))) (brought S b (Some kind))) (head_tests ++ inner_tests)
  head-good kind packet datagram is = by (first (tunnel_reasons U.known kind d)) refl (heads-among U.known kind d)
    where
      kind_told : option_and_then (kind_of U) (datagram_in b) ≡ Some kind
      kind_told = ap (option_and_then (kind_of U)) datagram ∙ is

      carried : first (tunnel_reasons U.known kind d) ≡ None → carried_in S b ≡ Some (carried_of kind d)
      carried none = ap (option_and_then (carried_by S)) datagram ∙ ap (option_and_then (inner_if U.known d)) is ∙ inner-there U.known kind d none

      by : (o : Option Reason) → first (tunnel_reasons U.known kind d) ≡ o → among o head_tests ≡ true → Good R saw (unless (as_refused None o) (brought S b (Some kind))) (head_tests ++ inner_tests)
      by (Some r) first_is there =
          let came : Result Arrival Refused = Err (record { segment = None; reason = r }) in
          record {
            agree = agree-front R (saw came) (Some r) head_tests inner_tests (heads-told kind kind_told came)
                (λ none. absurd (false≢true (sym (none-among r head_tests none) ∙ there)));
            among = among-front r head_tests inner_tests there;
          }
      by None first_is there =
          let came = brought S b (Some kind) in
          let behind = brought-good kind packet (carried first_is) in
          record {
            agree = agree-front R (saw came) (refusal_of came) head_tests inner_tests (heads-told kind kind_told came) (λ _. behind.agree);
            among = among-behind (refusal_of came) head_tests inner_tests behind.among;
          }

  -- what comes behind the tests of a datagram
  abbrev rest : Option Tunnel → Result Arrival Refused
  rest kind = unless (as_refused None (first (head_reasons S b kind))) (brought S b kind)

  rest-good : packet_if b ≡ Some p → datagram_in b ≡ Some (found_in b) → (kind : Option Tunnel) → kind_of U (found_in b) ≡ kind → is_none kind ≡ false → Good R saw (rest kind) (head_tests ++ inner_tests)
  rest-good packet datagram None is some = absurd (false≢true (sym some))
  rest-good packet datagram (Some kind) is some = head-good kind packet datagram is

  -- the tests of a datagram
  datagram-rows : NothingHolds (frame_reasons b) → Rows R saw (refused_rows None (datagram_reasons U p)) (rest (kind_to U p)) (head_tests ++ inner_tests)
  datagram-rows none =
      let packet = packet-there b none in
      let found = λ (good : is_bad_udp p.payload ≡ false). datagram-there b none good in
      let tunnel = λ (good : is_bad_udp p.payload ≡ false).
      ap (λ (o : Option (Packet × Parts)). tells R (option_map (λ (x : Packet × Parts). facts.TunnelPort (kind_of U x)) o)) (found good) ∙ ap (λ (o : Option Tunnel). is_none o) (kind-there U b good) in
      let sum = λ (good : is_bad_udp p.payload ≡ false). ap (λ (o : Option (Packet × Parts)). tells R (option_map sum_fact o)) (found good) ∙ ap (is_wrong U) (sum-there b good) in (
        λ _. refl,
        λ good. (
          λ fails. quiet-else U facts.BadUdp (option_map udp_fact (datagram_in b)) _ fails (quiet-map U udp_fact (datagram_in b) (λ _. refl)),
          (
            λ h. tunnel good ∙ h,
            λ there. (
              λ _. tunnel good ∙ there,
              (
                λ _. refl,
                λ _. (
                  λ fails. quiet-if U facts.NoSum _ fails,
                  (λ h. sum good ∙ h, λ right. (λ _. sum good ∙ right, rest-good packet (found good) (kind_to U p) (kind-there U b good) there)),
                ),
              ),
            ),
          ),
        ),
      )

  -- those of a packet
  packet-rows : NothingHolds (frame_reasons b) → Rows R saw (refused_rows None (packet_reasons U p ++ datagram_reasons U p)) (rest (kind_to U p)) (head_tests ++ inner_tests)
  packet-rows none =
      let packet = packet-there b none in
      let receiver = ap (λ (o : Option Packet). tells R (option_map (receiver_fact U) o)) packet in
      let protocol = ap (λ (o : Option Packet). tells R (option_map (λ (x : Packet). facts.Protocol x.protocol) o)) packet in (
        λ _. refl,
        λ _. (
          λ fails. ap (λ (q : Bool). not (not q)) fails,
          (
            λ h. receiver ∙ h,
            λ ours. (
              λ _. receiver ∙ ours,
              (λ _. refl, λ _. (λ fails. quiet-if U facts.Fragment _ fails, (λ h. protocol ∙ h, λ udp. (λ _. protocol ∙ udp, datagram-rows none)))),
            ),
          ),
        ),
      )

  -- all up to the tunnel header
  front-rows : Rows R saw (refused_rows None (front_reasons S original b)) (rest (kind_to U p)) (head_tests ++ inner_tests)
  front-rows = (
    λ h. h,
    λ short. (
      λ _. short,
      (
        λ h. h,
        λ caught. (
          λ _. caught,
          (
            λ h. header-told U b true h,
            λ long. (
              λ _. header-told U b false long,
              (
                λ _. refl,
                λ ip. (
                  λ fails. quiet-if U facts.NotIp _ fails,
                  (
                    λ _. refl,
                    λ head. (
                      λ fails. quiet-else U facts.BadIp (option_map ip_fact (packet_if b)) _ fails (quiet-map U ip_fact (packet_if b) (λ _. refl)),
                      (λ _. refl, λ sum. (λ fails. quiet-if U facts.BadIpSum _ fails, packet-rows (long, (ip, (head, (sum, tt)))))),
                    ),
                  ),
                ),
              ),
            ),
          ),
        ),
      ),
    ),
  )

pub packet-refusals : (S : Overlay) (original : ℕ) (b : List ℕ) → RefusesAs (is_packet_refusal S.underlay) (came_by S original b) (packet_facts S original b)
packet-refusals S original b =
    subst (λ (came : Result Arrival Refused). RefusesAs (is_packet_refusal S.underlay) came (packet_facts_of S original b came)) (sym (came-table S original b))
    (told-as (is_packet_refusal S.underlay) (saw S original b table) table packet_tests good.agree)
  where
    table : Result Arrival Refused
    table = unless (first (refused_rows None (front_reasons S original b))) (rest S original b (kind_to S.underlay (packet_in b)))

    good : Good (is_packet_refusal S.underlay) (saw S original b) table packet_tests
    good = rows-good (is_packet_refusal S.underlay) (saw S original b) (refused_rows None (front_reasons S original b)) (rest S original b (kind_to S.underlay (packet_in b)))
        (head_tests ++ inner_tests) refl (front-rows S original b)
