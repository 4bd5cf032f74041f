-- The outlets of a flood, and the places that its story tells as left out.
use Rattle.std.proofs.Common.{◌≡◌, ◌∙◌, refl, sym, ap, arith, ℕ, ◌==◌, ◌<◌, ◌≤◌, Bool, true, false, cond}
use Rattle.std.proofs.Common.{List, [], ◌∷◌, ◌++◌, map, filter, length, Option, Some, None}
use Rattle.std.specs.Prelude.{IfSome, not, ◌&&◌, is_none, is_some, nat_lt}
use Rattle.std.specs.FinMap.{get}
use Rattle.std.specs.List.{AllByRecursion, flat_map, range_with_len}
use Rattle.std.specs.Option.{option_to_list, option_map}
use Rattle.std.proofs.lemmas.Bool.{eq-eqb, ltb-false, ltb-true}
use Rattle.std.proofs.lemmas.Grind.{flat_map-append}
use Rattle.std.proofs.lemmas.List.{map-append}
use Rattle.std.proofs.lemmas.List.Elements.{filter-append}
use Rattle.wire.specs.declared.ip_udp.addr.Addr.{Addr}
use Rattle.wire.specs.declared.ip_udp.addr.Tunnel.{Tunnel}
use Rattle.wire.specs.declared.ip_udp.addr.Tunnel.TheVariants.{Vxlan, Geneve}
use Rattle.wire.specs.Addr.{same_addr, same_kind}
use Rattle.filter_db.specs.declared.place.Place.{Place}
use Rattle.filter_db.specs.declared.place.Place.TheVariants.{Local, Remote}
use Rattle.filter_db.specs.Place.{same_place}
use Rattle.overlay.specs.declared.ports.member.Egress.{Egress}
use Rattle.tunnel_learning.specs.Bridge.{Config, Target, group_of, in_one_group, is_local_outlet, is_remote_outlet, is_up_at, local_places, place_of, remote_places}
use Rattle.event_story.specs.Bridge.{left_among, left_facts, left_out, left_ports, places_of, ports_told}
use Rattle.event_story.specs.Neighbours.{folded}
use Rattle.event_story.specs.declared.fact.Fact.{Fact}
use Rattle.event_story.specs.declared.fact.Fact.TheVariants as facts
use Rattle.story_laws.proofs.Neighbours.{IsAlone, all_alone, folded-apart, folded-tells}
use Rattle.story_laws.specs.Told.{AreApart, one_by_one, place_told}

-- ---- one place

local_by : (same up : Bool) (member : Option Egress) (f g h : Fact) → (not (not (up && is_some member)) && not same) ≡ is_none (cond same (Some f) (cond (not up) (Some g) (cond (is_none member) (Some h) None)))
local_by true true None f g h = refl
local_by true true (Some e) f g h = refl
local_by true false member f g h = refl
local_by false true None f g h = refl
local_by false true (Some e) f g h = refl
local_by false false member f g h = refl

local-outlet : (c : Config) (from : Place) (port : ℕ) → is_local_outlet c from (Local port) ≡ is_none (left_out c from (Local port))
local-outlet c (Local p) port =
    local_by (same_place (Local port) (Local p)) (is_up_at c.up port) (get c.members port)
    (facts.Same (Local port)) (facts.PortsDown port port) (facts.NoMembers port port)
local-outlet c (Remote k a) port =
    local_by (same_place (Local port) (Remote k a)) (is_up_at c.up port) (get c.members port)
    (facts.Same (Local port)) (facts.PortsDown port port) (facts.NoMembers port port)

-- a remote is of the group of its own kind
remote_by : (same group : Bool) (f g : Fact) → (same ≡ true → group ≡ true) → not group ≡ is_none (cond same (Some f) (cond group (Some g) None))
remote_by true group f g own = ap not (own refl)
remote_by false true f g own = refl
remote_by false false f g own = refl

own-group : (c : Config) (k l : Tunnel) (same : Bool) → (same_kind l k && same) ≡ true → (group_of c k == group_of c l) ≡ true
own-group c Vxlan Vxlan same is = eq-eqb c.groups.0 c.groups.0 refl
own-group c Geneve Geneve same is = eq-eqb c.groups.1 c.groups.1 refl
own-group c Vxlan Geneve same is = absurd cc
own-group c Geneve Vxlan same is = absurd cc

remote-outlet : (c : Config) (from : Place) (target : Target) → is_remote_outlet c from (place_of target) ≡ is_none (left_out c from (place_of target))
remote-outlet c (Local p) target = refl
remote-outlet c (Remote k a) target =
    remote_by (same_place (place_of target) (Remote k a)) (in_one_group c (Remote k a) (place_of target)) (facts.Same (place_of target)) (facts.Horizon (place_of target))
    (own-group c k target.tunnel (same_addr target.addr a))

-- ---- all places

module _ {X : Type 0} (g : X → Place) (p q : Place → Bool) (same : (x : X) → p (g x) ≡ q (g x)) where
  same-filter : (xs : List X) → filter p (map g xs) ≡ filter q (map g xs)
  same-filter [] = refl
  same-filter (x ∷ xs) = λ i. cond (same x i) (g x ∷ same-filter xs i) (same-filter xs i)

pub outlets-told : (c : Config) (from : Place) → local_places c from ++ remote_places c from ≡ filter (λ to. is_none (left_out c from to)) (places_of c)
outlets-told c from =
    ap (λ l. l ++ remote_places c from)
    (same-filter Local (is_local_outlet c from) (λ to. is_none (left_out c from to)) (local-outlet c from) (range_with_len 1 (length c.up)))
    ∙ ap (λ l. filter (λ to. is_none (left_out c from to)) (map Local (range_with_len 1 (length c.up))) ++ l)
    (same-filter place_of (is_remote_outlet c from) (λ to. is_none (left_out c from to)) (remote-outlet c from) c.flood)
    ∙ sym (filter-append (λ to. is_none (left_out c from to)) (map Local (range_with_len 1 (length c.up))) (map place_of c.flood))

-- ---- what is told of those that are left out

-- a fact tells the place that it is about
told_by : (to : Place) (same group : Bool) (shut : Option Fact) → option_map place_told shut ≡ option_map (λ (f : Fact). Some to) shut
    → (let fact : Option Fact = cond same (Some (facts.Same to)) (cond group (Some (facts.Horizon to)) shut) in option_map place_told fact ≡ option_map (λ (f : Fact). Some to) fact)
told_by to true group shut h = refl
told_by to false true shut h = refl
told_by to false false shut h = h

shut_by : (port : ℕ) (up : Bool) (member : Option Egress)
    → (let fact : Option Fact =
    cond (not up) (Some (facts.PortsDown port port)) (cond (is_none member) (Some (facts.NoMembers port port)) None) in
    option_map place_told fact ≡ option_map (λ (f : Fact). Some (Local port)) fact)
shut_by port false member = refl
shut_by port true None = refl
shut_by port true (Some e) = refl

fact-place : (c : Config) (from to : Place) → option_map place_told (left_out c from to) ≡ option_map (λ (f : Fact). Some to) (left_out c from to)
fact-place c from (Local port) =
    told_by (Local port) (same_place (Local port) from) (in_one_group c from (Local port))
    (cond (not (is_up_at c.up port)) (Some (facts.PortsDown port port))
    (cond (is_none (get c.members port)) (Some (facts.NoMembers port port)) None))
    (shut_by port (is_up_at c.up port) (get c.members port))
fact-place c from (Remote k a) = told_by (Remote k a) (same_place (Remote k a) from) (in_one_group c from (Remote k a)) None refl

abbrev inner : Option (Option Place) → Option Place
inner None = None
inner (Some place) = place

one-told : (to : Place) (found : Option Fact) (rest : List Fact) (places : List Place) → option_map place_told found ≡ option_map (λ (f : Fact). Some to) found
    → map place_told rest ≡ map Some places → map place_told (option_to_list found ++ rest) ≡ map Some (cond (is_some found) (to ∷ places) places)
one-told to None rest places about more = more
one-told to (Some fact) rest places about more = let head : place_told fact ≡ Some to = ap inner about in λ i. head i ∷ more i

among-told : (c : Config) (from : Place) (places : List Place)
    → map place_told (left_among c from places) ≡ map Some (filter (λ to. is_some (left_out c from to)) places)
among-told c from [] = refl
among-told c from (to ∷ places) =
    one-told to (left_out c from to) (left_among c from places) (filter (λ to. is_some (left_out c from to)) places)
    (fact-place c from to) (among-told c from places)

-- ---- those as one that follow each other

-- what is told of a place is of that alone
alone_by : (to : Place) (same group : Bool) (shut : Option Fact) → IfSome shut IsAlone
    → IfSome (cond same (Some (facts.Same to)) (cond group (Some (facts.Horizon to)) shut)) IsAlone
alone_by to true group shut one = tt
alone_by to false true shut one = tt
alone_by to false false shut one = one

shut_alone : (port : ℕ) (up none : Bool)
    → IfSome (cond (not up) (Some (facts.PortsDown port port)) (cond none (Some (facts.NoMembers port port)) None)) IsAlone
shut_alone port false none = refl
shut_alone port true true = refl
shut_alone port true false = tt

left_alone : (c : Config) (from to : Place) → IfSome (left_out c from to) IsAlone
left_alone c from (Local port) =
    alone_by (Local port) (same_place (Local port) from) (in_one_group c from (Local port))
    (cond (not (is_up_at c.up port)) (Some (facts.PortsDown port port))
    (cond (is_none (get c.members port)) (Some (facts.NoMembers port port)) None))
    (shut_alone port (is_up_at c.up port) (is_none (get c.members port)))
left_alone c from (Remote k a) = alone_by (Remote k a) (same_place (Remote k a) from) (in_one_group c from (Remote k a)) None tt

front_alone : (found : Option Fact) (fs : List Fact) → IfSome found IsAlone → AllByRecursion IsAlone fs
    → AllByRecursion IsAlone (option_to_list found ++ fs)
front_alone None fs one ones = ones
front_alone (Some f) fs one ones = (one, ones)

among_alone : (c : Config) (from : Place) (places : List Place) → AllByRecursion IsAlone (left_among c from places)
among_alone c from [] = tt
among_alone c from (to ∷ places) =
    front_alone (left_out c from to) (left_among c from places) (left_alone c from to) (among_alone c from places)

ports-told : (c : Config) (from : Place) → flat_map one_by_one (ports_told c from) ≡ left_ports c from
ports-told c from = by (nat_lt 16 (length c.up))
  where
    ones : AllByRecursion IsAlone (left_ports c from)
    ones = among_alone c from (map Local (range_with_len 1 (length c.up)))

    by : (many : Bool) → flat_map one_by_one (cond many (folded (left_ports c from)) (left_ports c from)) ≡ left_ports c from
    by true = folded-tells (left_ports c from) ones
    by false = all_alone (left_ports c from) ones

both-among : (c : Config) (from : Place) → left_ports c from ++ left_among c from (map place_of c.flood) ≡ left_among c from (places_of c)
both-among c from =
    sym (flat_map-append (λ to. option_to_list (left_out c from to)) (map Local (range_with_len 1 (length c.up))) (map place_of c.flood))

pub facts-told : (c : Config) (from : Place) → flat_map one_by_one (left_facts c from) ≡ left_among c from (places_of c)
facts-told c from =
    flat_map-append one_by_one (ports_told c from) (left_among c from (map place_of c.flood))
    ∙ ap (λ l. l ++ flat_map one_by_one (left_among c from (map place_of c.flood))) (ports-told c from)
    ∙ ap (λ l. left_ports c from ++ l) (all_alone (left_among c from (map place_of c.flood)) (among_alone c from (map place_of c.flood)))
    ∙ both-among c from

pub left-told : (c : Config) (from : Place)
    → map place_told (flat_map one_by_one (left_facts c from)) ≡ map Some (filter (λ to. is_some (left_out c from to)) (places_of c))
left-told c from = ap (map place_told) (facts-told c from) ∙ among-told c from (places_of c)

pub few-told : (c : Config) (from : Place) → length c.up ≤ 16 → left_facts c from ≡ left_among c from (places_of c)
few-told c from few = by (nat_lt 16 (length c.up)) refl ∙ both-among c from
  where
    by : (many : Bool) → nat_lt 16 (length c.up) ≡ many
        → cond many (folded (left_ports c from)) (left_ports c from) ++ left_among c from (map place_of c.flood)
        ≡ left_ports c from ++ left_among c from (map place_of c.flood)
    by true is = absurd (omega (arith, few, ltb-true 16 (length c.up) is))
    by false is = refl

pub ports-apart : (c : Config) (from : Place) → 16 < length c.up → AreApart (ports_told c from)
ports-apart c from many = by (nat_lt 16 (length c.up)) refl
  where
    by : (more : Bool) → nat_lt 16 (length c.up) ≡ more → AreApart (cond more (folded (left_ports c from)) (left_ports c from))
    by true is = folded-apart (left_ports c from)
    by false is = absurd (omega (arith, many, ltb-false 16 (length c.up) is))
