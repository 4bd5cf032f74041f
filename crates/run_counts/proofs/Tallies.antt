-- What the counters say, with an event or an answer more.
use Rattle.std.proofs.Common.{◌≡◌, ◌∙◌, ap, cond, sym, refl, ℕ, ◌+◌, ◌<◌, List, [], ◌∷◌, ◌++◌, append-nil, append_assoc, min, Option, Some, None, map, take, length, slice_index_or, arith}
use Rattle.std.proofs.Math.Path.{fun_ext}
use Rattle.std.specs.Prelude.{Bool, true, false, if◌then◌else◌, Result, Ok, Err}
use Rattle.std.specs.List.{count_by, filter_map, flat_map}
use Rattle.std.specs.Option.{option_to_list}
use Rattle.std.proofs.lemmas.Grind.{common_steps, flat_map-append}
use Rattle.std.proofs.lemmas.List.{map-append}
use Rattle.std.proofs.lemmas.List.Elements.{filter_map-append}
use Rattle.std.proofs.lemmas.List.Sums.{sum_by-append}
use Rattle.wire.specs.declared.ether.reason.Reason.{Reason}
use Rattle.wire.proofs.FirstLemmas.{same_Ok}
use Rattle.encapsulate.specs.Remote.{sizes}
use Rattle.filter_db.specs.declared.place.Place.{Place}
use Rattle.timeline.specs.declared.event.Event.{Event}
use Rattle.timeline.specs.declared.source.Tap.{Tap}
use Rattle.endpoint_core.specs.declared.state.fault.ChangeFault.{ChangeFault}
use Rattle.endpoint_core.specs.Counts.{most}
use Rattle.endpoint_core.specs.Decision.{Sent}
use Rattle.endpoint_core.specs.Step.{Answer}
use Rattle.run_counts.specs.Keeping.{Hears, Keeping, flow_in, refusals_in, totals_in}
use Rattle.run_counts.specs.Totals.{Totals, at_tap, faults_in, flow_of, is_partial, outcomes_in, partial_in, refusals, same_fault, size_from, size_to, sizes_from, sizes_to, tap_of, totals_of}
use Rattle.run_counts.specs.declared.flow.Flows.{Flows}

-- ---- lists with one more

filter_map_one : {X Y : Type 0} (h : X → Option Y) (x : X) → filter_map h (x ∷ []) ≡ option_to_list (h x)
filter_map_one h x = by (h x) refl
  where
    by : (o : Option _) → h x ≡ o → filter_map h (x ∷ []) ≡ option_to_list (h x)
    by None is = rw is refl
    by (Some y) is = rw is refl

flat_map_one : {X Y : Type 0} (f : X → List Y) (xs : List X) (x : X) → flat_map f (xs ++ x ∷ []) ≡ flat_map f xs ++ f x
flat_map_one f xs x = flat_map-append f xs (x ∷ []) ∙ ap (λ l. flat_map f xs ++ l) (append-nil (f x))

sizes_from_more : (tap : Tap) (es : List Event) (e : Event) → sizes_from tap (es ++ e ∷ []) ≡ sizes_from tap es ++ option_to_list (size_from tap e.happening)
sizes_from_more tap es e =
    filter_map-append (λ (e : Event). size_from tap e.happening) es (e ∷ []) ∙ ap (λ l. sizes_from tap es ++ l) (filter_map_one (λ (e : Event). size_from tap e.happening) e)

sizes_to_more : (tap : Tap) (given : List Answer) (a : Answer) → sizes_to tap (given ++ a ∷ []) ≡ sizes_to tap given ++ filter_map (size_to tap) (outcomes_in a)
sizes_to_more tap given a = ap (filter_map (size_to tap)) (flat_map_one outcomes_in given a) ∙ filter_map-append (size_to tap) (flat_map outcomes_in given) (outcomes_in a)

count_more : (p : Event → Bool) (es : List Event) (e : Event) → count_by p (es ++ e ∷ []) ≡ count_by p es + cond (p e) 1 0
count_more p es e =
    let one : count_by p (e ∷ []) ≡ cond (p e) 1 0 = omega arith in
    sum_by-append (λ (x : Event). cond (p x) 1 0) es (e ∷ []) ∙ ap (λ (n : ℕ). count_by p es + n) one

partial_more : (es : List Event) (e : Event) → partial_in (es ++ e ∷ []) ≡ (if is_partial e.happening then min most (partial_in es + 1) else partial_in es)
partial_more es e = by (is_partial e.happening) (count_more (λ (x : Event). is_partial x.happening) es e)
  where
    by : (b : Bool) → count_by (λ (x : Event). is_partial x.happening) (es ++ e ∷ []) ≡ count_by (λ (x : Event). is_partial x.happening) es + cond b 1 0
        → partial_in (es ++ e ∷ []) ≡ (if b then min most (partial_in es + 1) else partial_in es)
    by true more = omega (arith, more)
    by false more = omega (arith, more)

-- ---- the counters

-- an event more
pub expects_by : (old new : Keeping) (e : Event)
    → ((tap : Tap) (sizes : List ℕ) → flow_in old.came tap ≡ flow_of sizes → flow_in new.came tap ≡ flow_of (sizes ++ option_to_list (size_from tap e.happening)))
    → new.left ≡ old.left → new.refused ≡ old.refused → new.partial ≡ (if is_partial e.happening then min most (old.partial + 1) else old.partial)
    → (es : List Event) (given : List Answer) → totals_in old ≡ totals_of es given → totals_in new ≡ totals_of (es ++ e ∷ []) given
expects_by old new e came left refused partial es given is =
    let first : flow_in new.came ≡ (λ tap. flow_of (sizes_from tap (es ++ e ∷ []))) =
    fun_ext (λ tap. came tap (sizes_from tap es) (ap (λ (x : Totals). x.came tap) is) ∙ ap flow_of (sym (sizes_from_more tap es e))) in
    let second : flow_in new.left ≡ (λ tap. flow_of (sizes_to tap given)) = ap flow_in left ∙ ap (λ (x : Totals). x.left) is in
    let third : refusals_in new.refused ≡ (λ fault. refusals fault given) = ap refusals_in refused ∙ ap (λ (x : Totals). x.refused) is in
    let fourth : new.partial ≡ partial_in (es ++ e ∷ []) =
    partial ∙ ap (λ n. if is_partial e.happening then min most (n + 1) else n) (ap (λ (x : Totals). x.partial) is) ∙ sym (partial_more es e) in
    λ t. record { came = first t; left = second t; refused = third t; partial = fourth t }

-- an answer more
pub hears_by : (old new : Keeping) (a : Answer) → new.came ≡ old.came
    → ((tap : Tap) (sizes : List ℕ) → flow_in old.left tap ≡ flow_of sizes → flow_in new.left tap ≡ flow_of (sizes ++ filter_map (size_to tap) (outcomes_in a)))
    → ((fault : ChangeFault) (causes : List ChangeFault) → refusals_in old.refused fault ≡ min most (count_by (same_fault fault) causes)
    → refusals_in new.refused fault ≡ min most (count_by (same_fault fault) (causes ++ faults_in a)))
    → new.partial ≡ old.partial → Hears old a new
hears_by old new a came left refused partial es given is =
    let first : flow_in new.came ≡ (λ tap. flow_of (sizes_from tap es)) = ap flow_in came ∙ ap (λ (x : Totals). x.came) is in
    let second : flow_in new.left ≡ (λ tap. flow_of (sizes_to tap (given ++ a ∷ []))) =
    fun_ext (λ tap. left tap (sizes_to tap given) (ap (λ (x : Totals). x.left tap) is) ∙ ap flow_of (sym (sizes_to_more tap given a))) in
    let third : refusals_in new.refused ≡ (λ fault. refusals fault (given ++ a ∷ [])) =
    fun_ext (λ fault. refused fault (flat_map faults_in given) (ap (λ (x : Totals). x.refused fault) is)
    ∙ ap (λ l. min most (count_by (same_fault fault) l)) (sym (flat_map_one faults_in given a))) in
    let fourth : new.partial ≡ partial_in es = partial ∙ ap (λ (x : Totals). x.partial) is in
    λ t. record { came = first t; left = second t; refused = third t; partial = fourth t }

-- ---- what leaves at one place more

take_one : {X : Type 0} (xs : List X) (i : ℕ) (d : X) → i < length xs → take (i + 1) xs ≡ take i xs ++ slice_index_or xs i d ∷ []
take_one xs i d l = grind (arith, common_steps)

pub leaving_more : (f : Place → Sent) (places : List Place) (i : ℕ) (d : Place) (tap : Tap) (sizes : List ℕ) → i < length places
    → (sizes ++ filter_map (size_to tap) (map f (take i places))) ++ option_to_list (size_to tap (f (slice_index_or places i d)))
    ≡ sizes ++ filter_map (size_to tap) (map f (take (i + 1) places))
leaving_more f places i d tap sizes l =
    let before = filter_map (size_to tap) (map f (take i places)) in
    let one = f (slice_index_or places i d) in
    append_assoc sizes before (option_to_list (size_to tap one))
    ∙ ap (λ t. sizes ++ (before ++ t)) (sym (filter_map_one (size_to tap) one))
    ∙ ap (λ t. sizes ++ t) (sym (filter_map-append (size_to tap) (map f (take i places)) (one ∷ [])))
    ∙ ap (λ t. sizes ++ filter_map (size_to tap) t) (sym (ap (map f) (take_one places i d l) ∙ map-append f (take i places) (slice_index_or places i d ∷ [])))

-- where something was sent
pub sized : (tap : Tap) (o : Sent) (r : Result ℕ Reason) (size : ℕ) → r ≡ Ok size → r ≡ sizes o.sent → at_tap tap (tap_of o.place) size ≡ size_to tap o
sized tap o r size is sent = by o.sent (sym is ∙ sent)
  where
    by : (s : Result (List ℕ) Reason) → Ok size ≡ sizes s → at_tap tap (tap_of o.place) size ≡ size_to tap (record { place = o.place; sent = s })
    by (Ok octets) e = ap (at_tap tap (tap_of o.place)) (same_Ok size (length octets) e)
    by (Err reason) e = absurd cc

-- and where nothing was
pub unsized : (tap : Tap) (o : Sent) (r : Result ℕ Reason) (reason : Reason) → r ≡ Err reason → r ≡ sizes o.sent → None ≡ size_to tap o
unsized tap o r reason is sent = by o.sent (sym is ∙ sent)
  where
    by : (s : Result (List ℕ) Reason) → Err reason ≡ sizes s → None ≡ size_to tap (record { place = o.place; sent = s })
    by (Ok octets) e = absurd cc
    by (Err other) e = refl

pub leaves_one : (f : Place → Sent) (places : List Place) (i : ℕ) (d : Place) (tap here : Tap) (sizes : List ℕ) (size : ℕ) (old new : Flows) → i < length places
    → flow_in old tap ≡ flow_of (sizes ++ filter_map (size_to tap) (map f (take i places)))
    → ((at : Tap) (before : List ℕ) → flow_in old at ≡ flow_of before → flow_in new at ≡ flow_of (before ++ option_to_list (at_tap at here size)))
    → at_tap tap here size ≡ size_to tap (f (slice_index_or places i d))
    → flow_in new tap ≡ flow_of (sizes ++ filter_map (size_to tap) (map f (take (i + 1) places)))
leaves_one f places i d tap here sizes size old new l so add is =
    let before = sizes ++ filter_map (size_to tap) (map f (take i places)) in
    add tap before so ∙ ap (λ o. flow_of (before ++ option_to_list o)) is ∙ ap flow_of (leaving_more f places i d tap sizes l)

pub leaves_none : (f : Place → Sent) (places : List Place) (i : ℕ) (d : Place) (tap : Tap) (sizes : List ℕ) (old : Flows) → i < length places
    → flow_in old tap ≡ flow_of (sizes ++ filter_map (size_to tap) (map f (take i places)))
    → None ≡ size_to tap (f (slice_index_or places i d))
    → flow_in old tap ≡ flow_of (sizes ++ filter_map (size_to tap) (map f (take (i + 1) places)))
leaves_none f places i d tap sizes old l so is =
    let before = sizes ++ filter_map (size_to tap) (map f (take i places)) in
    so ∙ ap flow_of (sym (append-nil before)) ∙ ap (λ o. flow_of (before ++ option_to_list o)) is ∙ ap flow_of (leaving_more f places i d tap sizes l)

-- ---- where nothing is counted

pub no_flow_more : (flows : Flows) (tap : Tap) (sizes : List ℕ) → flow_in flows tap ≡ flow_of sizes → flow_in flows tap ≡ flow_of (sizes ++ [])
no_flow_more flows tap sizes is = is ∙ ap flow_of (sym (append-nil sizes))

pub no_refusal_more : (counts : List ℕ) (fault : ChangeFault) (causes : List ChangeFault) → refusals_in counts fault ≡ min most (count_by (same_fault fault) causes)
    → refusals_in counts fault ≡ min most (count_by (same_fault fault) (causes ++ []))
no_refusal_more counts fault causes is = is ∙ ap (λ l. min most (count_by (same_fault fault) l)) (sym (append-nil causes))
