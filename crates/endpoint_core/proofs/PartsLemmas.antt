-- The outcomes of what came, in their parts.
use Rattle.std.proofs.Common.{◌≡◌, sym, ap, List, [], map, Result, Ok, Err}
use Rattle.std.proofs.lemmas.List.Elements.{All-map, All-nil, All-same}
use Rattle.std.specs.Prelude.{slice_index_or}
use Rattle.wire.specs.declared.ether.reason.Refused.{Refused}
use Rattle.wire.proofs.FirstLemmas.{same_Ok}
use Rattle.filter_db.specs.declared.place.Place.{Place}
use Rattle.endpoint_core.specs.Settings.{Settings}
use Rattle.endpoint_core.specs.declared.decision.Outcome.{Outcome}
use Rattle.endpoint_core.specs.Arrival.{emitted_parts}
use Rattle.endpoint_core.specs.Arrival.{Arrival}
use Rattle.endpoint_core.specs.Forwarding.{AreInParts, Forwarding, IsOfWhatCame, outcomes_of}
use Rattle.endpoint_core.specs.Step.{outcome_at}

abbrev Leaving : Settings → Arrival → Outcome → Type 0
Leaving S x o = o.sent ≡ emitted_parts S.ports S.overlay x.vid x.frame o.place

pub in-parts : (S : Settings) (came : Result Arrival Refused) (forwarding : Forwarding) (places : List Place) (outcomes : List Outcome)
    → IsOfWhatCame came forwarding → outcomes ≡ outcomes_of S forwarding places → AreInParts S came outcomes
in-parts S (Ok x) (Err refused) places outcomes of is = All-same (Leaving S x) outcomes [] is (All-nil (Leaving S x))
in-parts S (Ok x) (Ok y) places outcomes of is =
    All-same (Leaving S x) outcomes (map (outcome_at S y.vid y.frame) places) is
    (All-map (Leaving S x) (outcome_at S y.vid y.frame) places
    (λ k d l. ap (λ (z : Arrival). emitted_parts S.ports S.overlay z.vid z.frame (slice_index_or places k d)) (sym (same_Ok x y of))))
in-parts S (Err refused) (Err other) places outcomes of is = is
in-parts S (Err refused) (Ok y) places outcomes of is = absurd cc
