-- What leaves at a local port is the text of a frame that came.
use Rattle.std.proofs.Common.{◌≡◌, ℕ, not, Bool, true, false, cond, List, [], ◌∷◌, ◌++◌, length, map, Option, Some, None, Result, Ok, Err, IfOk, refl, ap, ◌∙◌}
use Rattle.std.specs.Prelude.{is_some}
use Rattle.std.specs.Option.{option_and_then, option_map, option_map_or}
use Rattle.std.specs.List.{AllByRecursion, filter, range_with_len}
use Rattle.std.specs.FinMap.{get}
use Rattle.std.proofs.lemmas.Bool.{and_parts, cond_both, not-true, not-false, false≢true}
use Rattle.std.proofs.lemmas.Option.{same_Some}
use Rattle.wire.specs.Address.{is_group}
use Rattle.wire.specs.Frame.{Frame}
use Rattle.wire.specs.declared.ether.reason.Reason.{Reason}
use Rattle.wire.specs.declared.ether.reason.Reason.TheVariants.{SamePlace, Horizon, Unreachable}
use Rattle.wire.specs.declared.ether.reason.Refused.{Refused}
use Rattle.overlay.specs.declared.flood.remote.Remote.{Remote as Target}
use Rattle.filter_db.specs.declared.place.Place.{Place}
use Rattle.filter_db.specs.declared.place.Place.TheVariants.{Local, Remote}
use Rattle.filter_db.specs.Place.{same_place}
use Rattle.filter_db.specs.Table.{Table, stands}
use Rattle.overlay.specs.Ports.{Members, members_at, egress_at}
use Rattle.overlay.specs.declared.ports.member.Egress.{Egress}
use Rattle.overlay.specs.Overlay.{segment_at as overlay_segment}
use Rattle.overlay.specs.declared.underlay.segment.Segment.{Segment}
use Rattle.tunnel_learning.specs.Bridge.{Config, place_of, serves, is_up_at, is_local_outlet, is_remote_outlet, local_places, remote_places, in_one_group, is_shut, toward, to_place, or_no_outlet, outlets}
use Rattle.encapsulate.specs.Emission.{local_text}
use Rattle.endpoint_core.specs.Settings.{Settings, BridgeSettings, SegmentSettings, joined, segment_at}
use Rattle.endpoint_core.specs.State.{State as Bridges, aged}
use Rattle.endpoint_core.specs.StateStep.{config_of, verdict_in, after_frame}
use Rattle.endpoint_core.specs.Arrival.{Arrival}
use Rattle.endpoint_core.specs.Arrival.{came_at, came_by, emitted}
use Rattle.endpoint_core.specs.Decision.{Sent, Decision}
use Rattle.endpoint_core.specs.Event.{Input, FrameAt, Packet, Asks, Event}
use Rattle.endpoint_core.specs.Step.{State, answer, answer_by, by_verdict, decided, sent_at}
use Rattle.capture_run.specs.Sendings.{sendings_of, sent_by}
use Rattle.noninterference.specs.Leaving.{Departure, departure, departing, decided_in as told_in}
use Rattle.tenants_apart.specs.Again.{IsForwarded, IsTagless, IsTextIn, IsLocalText, LeavesAsText}
use Rattle.tenants_apart.proofs.Forwarded.{frame-forwarded, packet-forwarded}
use Rattle.tenants_apart.proofs.Tagless.{frame-tagless, packet-tagless}

-- ---- the outlets are open

abbrev Open : Config → List Place → Type 0
Open c places = AllByRecursion (λ to. is_shut c to ≡ false) places

open-append : (c : Config) (a b : List Place) → Open c a → Open c b → Open c (a ++ b)
open-append c [] b all more = more
open-append c (to ∷ a) b all more = (all.0, open-append c a b all.1 more)

open-local : (c : Config) (from : Place) (numbers : List ℕ) → Open c (filter (is_local_outlet c from) (map Local numbers))
open-local c from [] = tt
open-local c from (n ∷ numbers) = by (is_local_outlet c from (Local n)) refl (open-local c from numbers)
  where
    by : (b : Bool) → is_local_outlet c from (Local n) ≡ b → Open c (filter (is_local_outlet c from) (map Local numbers)) → Open c (cond b (Local n ∷ filter (is_local_outlet c from) (map Local numbers)) (filter (is_local_outlet c from) (map Local numbers)))
    by true outlet rest = (not-true (is_shut c (Local n)) (and_parts (not (is_shut c (Local n))) (not (same_place (Local n) from)) outlet).0, rest)
    by false other rest = rest

open-remote : (c : Config) (q : Place → Bool) (flood : List Target) → Open c (filter q (map place_of flood))
open-remote c q [] = tt
open-remote c q (r ∷ flood) = by (q (place_of r)) (open-remote c q flood)
  where
    by : (b : Bool) → Open c (filter q (map place_of flood)) → Open c (cond b (place_of r ∷ filter q (map place_of flood)) (filter q (map place_of flood)))
    by true rest = (refl, rest)
    by false rest = rest

open-some : (c : Config) (places : List Place) → Open c places → IfOk (or_no_outlet places) (Open c)
open-some c [] all = tt
open-some c (to ∷ places) all = all

open-known : (c : Config) (from to : Place) → IfOk (to_place c from to) (Open c)
open-known c from to =
    let P : Result (List Place) Reason → Type 0 = λ r. IfOk r (Open c) in
    cond_both (same_place to from) (Err SamePlace) _ P (λ e. tt)
    (λ e. cond_both (in_one_group c from to) (Err Horizon) _ P (λ e'. tt)
    (λ e'. cond_both (is_shut c to) (Err Unreachable) (Ok (to ∷ [])) P (λ e''. tt) (λ e''. (e'', tt))))

open-toward : (c : Config) (from : Place) (o : Option Place) → IfOk (toward c from o) (Open c)
open-toward c from None =
    open-some c (local_places c from ++ remote_places c from)
    (open-append c (local_places c from) (remote_places c from) (open-local c from (range_with_len 1 (length c.up))) (open-remote c (is_remote_outlet c from) c.flood))
open-toward c from (Some to) = open-known c from to

-- ---- and what leaves there is the frame

-- what leaves by a decision of the settings
abbrev LeavesWell : Settings → ℕ → Decision → Type 0
LeavesWell S t d = AllByRecursion (λ (x : Departure). LeavesAsText S x.segment x.sending.place x.sending.octets) (map (departure d.segment) (sendings_of t d.outcomes))

pub members-of : (b : Option BridgeSettings) (o : Option Segment) (m : Option Members) (s : SegmentSettings) → option_and_then (λ bridge. option_and_then (λ segment. option_map (λ members. joined bridge segment members) m) o) b ≡ Some s → m ≡ Some s.members
members-of None o m s h = absurd cc
members-of (Some b) None m s h = absurd cc
members-of (Some b) (Some g) None s h = absurd cc
members-of (Some b) (Some g) (Some members) s h = ap (λ (x : SegmentSettings). Some x.members) (same_Some (joined b g members) s h)

egress-there : (o : Option Egress) → is_some o ≡ true → (egress : Egress) × (o ≡ Some egress)
egress-there None h = absurd (false≢true h)
egress-there (Some egress) h = (egress, refl)

module _ (S : Settings) (t vid : ℕ) (f : Frame) (forwarded : IsForwarded f) (tagless : IsTagless S.overlay vid f) (s : SegmentSettings) (is : members_at S.ports vid ≡ Some s.members) where
  member : (n : ℕ) → is_shut (config_of S.ports s) (Local n) ≡ false → (egress : Egress) × (egress_at S.ports vid n ≡ Some egress)
  member n h =
      let both = and_parts (is_up_at (map (λ p. p.up) S.ports.ports) n) (is_some (get s.members n)) (not-false (serves (config_of S.ports s) n) h) in
      egress-there (egress_at S.ports vid n) (ap (λ (o : Option Members). is_some (option_and_then (λ m. get m n) o)) is ∙ both.1)

  abbrev All : List Sent → Type 0
  All sent = AllByRecursion (λ (x : Departure). LeavesAsText S x.segment x.sending.place x.sending.octets) (map (departure (Some vid)) (sendings_of t sent))

  remote : (sent : Sent) (rest : List Sent) → ((octets : List ℕ) → LeavesAsText S (Some vid) sent.place octets) → All rest → All (sent ∷ rest)
  remote sent rest each all = by sent.sent
    where
      by : (r : Result (List ℕ) Reason) → All (record { place = sent.place; sent = r } ∷ rest)
      by (Ok octets) = (each octets, all)
      by (Err reason) = all

  sent-well : (places : List Place) → Open (config_of S.ports s) places → All (map (sent_at S vid f) places)
  unfolding emitted
  sent-well [] all_open = tt
  sent-well (Local n ∷ places) all_open =
      let it = member n all_open.0 in
      let here : IsLocalText S (Some vid) n (option_map_or (λ egress. local_text vid egress f) (egress_at S.ports vid n) []) = record {
        vid = vid;
        egress = it.0;
        frame = f;
        segment_is = refl;
        member = it.1;
        forwarded = forwarded;
        tagless = tagless;
        octets_are = ap (λ (o : Option Egress). option_map_or (λ egress. local_text vid egress f) o []) it.1;
      } in
      (here, sent-well places all_open.1)
  sent-well (Remote kind addr ∷ places) all_open = remote (sent_at S vid f (Remote kind addr)) (map (sent_at S vid f) places) (λ octets. tt) (sent-well places all_open.1)

decided-well : (t : ℕ) (B : Bridges) (r : Result Arrival Refused) → ((x : Arrival) → r ≡ Ok x → IsForwarded x.frame × IsTagless B.settings.overlay x.vid x.frame) → LeavesWell B.settings t (decided t B r)
decided-well t B (Err refused) forwarded = tt
decided-well t B (Ok x) forwarded = by (segment_at B.settings x.vid) refl
  where
    m : Table
    m = (after_frame t x.vid x.from x.frame B).tables x.vid

    places-well : (s : SegmentSettings) → members_at B.settings.ports x.vid ≡ Some s.members → (r : Result (List Place) Reason) → IfOk r (Open (config_of B.settings.ports s)) → LeavesWell B.settings t (by_verdict B.settings x r)
    places-well s is (Ok places) all_open = sent-well B.settings t x.vid x.frame (forwarded x refl).0 (forwarded x refl).1 s is places all_open
    places-well s is (Err reason) all_open = tt

    by : (o : Option SegmentSettings) → segment_at B.settings x.vid ≡ o → LeavesWell B.settings t (by_verdict B.settings x (verdict_in B.settings.ports o x.from x.frame m))
    by None is = tt
    by (Some s) is =
        let members = members-of (B.settings.bridges x.vid) (overlay_segment B.settings.overlay x.vid) (members_at B.settings.ports x.vid) s is in
        let c = config_of B.settings.ports s in
        places-well s members (outlets c x.from x.frame m) (open-toward c x.from (cond (is_group x.frame.dst) None (stands x.frame.dst m)))

input-well : (t : ℕ) (B : Bridges) (input : Input) → IsTextIn input → AllByRecursion (λ (x : Departure). LeavesAsText B.settings x.segment x.sending.place x.sending.octets) (map (departure (told_in (answer_by t B input))) (sent_by t (answer_by t B input)))
input-well t B (FrameAt port original b) text = decided-well t B (came_at B.settings.ports B.settings.overlay port original b) (λ x is. (frame-forwarded B.settings.ports B.settings.overlay port original b x text is, frame-tagless B.settings.ports B.settings.overlay port original b x is))
input-well t B (Packet original b) text = decided-well t B (came_by B.settings.overlay original b) (λ x is. (packet-forwarded B.settings.overlay original b x is, packet-tagless B.settings.overlay original b x is))
input-well t B (Asks c) text = tt

pub leaves-well : (s : State) (e : Event) → IsTextIn e.input → AllByRecursion (λ (x : Departure). LeavesAsText s.bridges.settings x.segment x.sending.place x.sending.octets) (departing (record { event = e; reply = answer s e }))
leaves-well s e text = input-well e.at (aged e.at s.bridges) e.input text
