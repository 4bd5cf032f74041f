-- A frame has at most as many outlets as there are ports and remotes that its segment floods to, or one.
use Rattle.std.proofs.Common.{◌≡◌, ◌≤◌, ◌+◌, ◌∙◌, sym, ap, subst, ℕ, Bool, true, false, if◌then◌else◌, List, [], ◌∷◌, ◌++◌, map, length, length-append, arith, Option, Some, None, Result, Ok, Err, IfOk}
use Rattle.std.proofs.lemmas.List.{length-map}
use Rattle.std.proofs.lemmas.List.FromFn.{length-map-range_with_len}
use Rattle.std.proofs.lemmas.List.Sums.{count_by-le-length, length-filter}
use Rattle.std.specs.List.{filter, range_with_len}
use Rattle.std.specs.Option.{option_and_then, option_map, option_map_or}
use Rattle.wire.specs.Frame.{Frame}
use Rattle.wire.specs.Tag.{IsVid}
use Rattle.wire.specs.declared.ether.reason.Reason.{Reason}
use Rattle.wire.specs.declared.ether.reason.Reason.TheVariants.{Horizon, SamePlace, Unreachable}
use Rattle.wire.specs.declared.ether.reason.Refused.{Refused}
use Rattle.wire.proofs.FirstLemmas.{same_Ok}
use Rattle.filter_db.specs.declared.place.Place.{Place}
use Rattle.filter_db.specs.declared.place.Place.TheVariants.{Local}
use Rattle.filter_db.specs.Place.{same_place}
use Rattle.filter_db.specs.Table.{Table}
use Rattle.overlay.specs.Ports.{Members, Ports}
use Rattle.overlay.specs.declared.underlay.segment.Segment.{Segment}
use Rattle.tunnel_learning.specs.Bridge.{Config, in_one_group, is_local_outlet, is_remote_outlet, is_shut, local_places, or_no_outlet, everywhere, place_of, remote_places, to_place, toward}
use Rattle.endpoint_core.specs.Settings.{BridgeSettings, Settings, joined}
use Rattle.endpoint_core.specs.State.{State as Bridges}
use Rattle.endpoint_core.specs.StateStep.{config_of, verdict_in}
use Rattle.endpoint_core.specs.Arrival.{Arrival}
use Rattle.endpoint_core.specs.Forwarding.{Forwarding, IsOfWhatCame, decision_of}
use Rattle.endpoint_core.specs.Decision.{Sent}
use Rattle.endpoint_core.specs.Outlets.{HasFewOutlets}
use Rattle.endpoint_core.specs.Step.{Answer, Decided, Replied, by_verdict, decided, sent_at}

-- ---- a bridge

abbrev AtMost : ℕ → Result (List Place) Reason → Type 0
AtMost n r = IfOk r (λ places. length places ≤ n)

filter_few : {X : Type 0} (p : X → Bool) (xs : List X) → length (filter p xs) ≤ length xs
filter_few p xs = omega (arith, length-filter p xs, count_by-le-length p xs)

local_few : (c : Config) (from : Place) → length (local_places c from) ≤ length c.up
local_few c from = omega (arith, filter_few (is_local_outlet c from) (map Local (range_with_len 1 (length c.up))), length-map-range_with_len Local 1 (length c.up))

remote_few : (c : Config) (from : Place) → length (remote_places c from) ≤ length c.flood
remote_few c from = omega (arith, filter_few (is_remote_outlet c from) (map place_of c.flood), length-map c.flood place_of)

or_none_few : (n : ℕ) (places : List Place) → length places ≤ n → AtMost n (or_no_outlet places)
or_none_few n [] few = tt
or_none_few n (to ∷ places) few = few

everywhere_few : (c : Config) (from : Place) (n : ℕ) → length c.up + length c.flood ≤ n → AtMost n (everywhere c from)
everywhere_few c from n few =
    or_none_few n (local_places c from ++ remote_places c from) (omega (arith, few, local_few c from, remote_few c from, length-append (local_places c from) (remote_places c from)))

place_few : (c : Config) (from to : Place) (n : ℕ) → 1 ≤ n → AtMost n (to_place c from to)
place_few c from to n some = by (same_place to from) (in_one_group c from to) (is_shut c to)
  where
    by : (same group shut : Bool) → AtMost n (if same then Err SamePlace else if group then Err Horizon else if shut then Err Unreachable else Ok (to ∷ []))
    by true group shut = tt
    by false true shut = tt
    by false false true = tt
    by false false false = some

toward_few : (c : Config) (from : Place) (to : Option Place) (n : ℕ) → 1 ≤ n → length c.up + length c.flood ≤ n → AtMost n (toward c from to)
toward_few c from None n some few = everywhere_few c from n few
toward_few c from (Some to) n some few = place_few c from to n some

-- ---- a segment

verdict_few : (ports : Ports) (b : Option BridgeSettings) (g : Option Segment) (m : Option Members) (from : Place) (f : Frame) (t : Table) (n : ℕ) → 1 ≤ n
    → length ports.ports + length (option_map_or (λ (g : Segment). g.flood) g []) ≤ n
    → AtMost n (verdict_in ports (option_and_then (λ bridge. option_and_then (λ segment. option_map (λ members. joined bridge segment members) m) g) b) from f t)
verdict_few ports None g m from f t n some few = tt
verdict_few ports (Some b) None m from f t n some few = tt
verdict_few ports (Some b) (Some g) None from f t n some few = tt
verdict_few ports (Some b) (Some g) (Some m) from f t n some few =
    let c = config_of ports (joined b g m) in
    toward_few c from _ n some (omega (arith, few, length-map ports.ports (λ port. port.up)))

-- ---- a decision

abbrev outcomes_in : Answer → List Sent
outcomes_in (Decided d) = d.outcomes
outcomes_in (Replied fault) = []

by_few : (S : Settings) (x : Arrival) (r : Result (List Place) Reason) (n : ℕ) → AtMost n r → length (by_verdict S x r).outcomes ≤ n
by_few S x (Ok places) n few = omega (arith, few, length-map places (sent_at S x.vid x.frame))
by_few S x (Err reason) n few = omega arith

decided_few : (t : ℕ) (B : Bridges) (x : Arrival) → HasFewOutlets B.settings → IsVid x.vid → length (decided t B (Ok x)).outcomes ≤ 32
decided_few t B x few is_vid =
    by_few B.settings x _ 32
    (verdict_few B.settings.ports (B.settings.bridges x.vid) _ _ x.from x.frame _ 32 (omega arith) (few x.vid is_vid))

-- so a forwarding has few places that is decided as a frame or packet was
few_places : (S : Settings) (forwarding : Forwarding) (places : List Place) (came : Result Arrival Refused) (t : ℕ) (B : Bridges) → HasFewOutlets B.settings
    → IsOfWhatCame came forwarding → Decided (decision_of S forwarding places) ≡ Decided (decided t B came) → IfOk forwarding (λ x. IsVid x.vid → length places ≤ 32)
few_places S (Err refused) places came t B few of is = tt
few_places S (Ok x) places (Err refused) t B few of is = absurd cc
few_places S (Ok x) places (Ok y) t B few of is = λ is_vid.
    let same = sym (same_Ok y x of) in
    let told = ap (λ a. length (outcomes_in a)) is ∙ ap (λ z. length (decided t B (Ok z)).outcomes) (sym same) in
    omega (arith, told, length-map places (sent_at S x.vid x.frame), decided_few t B x few is_vid)

-- and so has it in a list that holds the same
pub few_slice : (S : Settings) (forwarding : Forwarding) (places slice : List Place) (came : Result Arrival Refused) (t : ℕ) (B : Bridges) → HasFewOutlets B.settings
    → IsOfWhatCame came forwarding → Decided (decision_of S forwarding places) ≡ Decided (decided t B came) → slice ≡ places → IfOk forwarding (λ x. IsVid x.vid → length slice ≤ 32)
few_slice S forwarding places slice came t B few of is same =
    subst (λ (ps : List Place). IfOk forwarding (λ x. IsVid x.vid → length ps ≤ 32)) (sym same) (few_places S forwarding places came t B few of is)
