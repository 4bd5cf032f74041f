-- What is let in is what entered, and a refusal of it is told of the same segment.
use Rattle.std.proofs.Common.{◌≡◌, Bool, true, false, cond, ◌&&◌, Option, Some, Result, Ok, Err, refl, sym, ap, subst}
use Rattle.std.specs.Option.{option_map_or}
use Rattle.wire.specs.Refusal.{within}
use Rattle.wire.specs.Tag.{begins_tag}
use Rattle.wire.specs.declared.ether.reason.Reason.TheVariants.{InnerTag}
use Rattle.wire.specs.declared.ether.reason.Refused.{Refused}
use Rattle.wire.proofs.FirstLemmas.{same_Ok}
use Rattle.overlay.specs.Overlay.{Overlay, segment_at, refuses_tags, refuses_tags_at}
use Rattle.overlay.specs.declared.underlay.segment.Segment.{Segment}
use Rattle.endpoint_core.specs.Among.{segment_of}
use Rattle.endpoint_core.specs.Arrival.{let_in}
use Rattle.endpoint_core.specs.Arrival.{Arrival}

abbrev tag_refused : Overlay → Arrival → Bool
tag_refused S x = begins_tag x.frame.body && refuses_tags_at S x.vid

-- what is let in entered, and has no tag in its body where the segment takes none
pub let_in-ok : (S : Overlay) (r : Result Arrival Refused) (x : Arrival) → let_in S r ≡ Ok x → (r ≡ Ok x) × (begins_tag x.frame.body && refuses_tags_at S x.vid ≡ false)
let_in-ok S (Err refused) x h = absurd cc
let_in-ok S (Ok y) x h = by (tag_refused S y) refl h
  where
    by : (c : Bool) → tag_refused S y ≡ c → ◌≡◌ {A = Result Arrival Refused} (cond c (Err (within y.vid InnerTag)) (Ok y)) (Ok x) → (◌≡◌ {A = Result Arrival Refused} (Ok y) (Ok x)) × (tag_refused S x ≡ false)
    by true is k = absurd cc
    by false is k = (k, subst (λ (z : Arrival). tag_refused S z ≡ false) (same_Ok y x k) is)

-- it is let in where its body begins with no tag, or the segment takes tags
pub let_in-all : (S : Overlay) (x : Arrival) → begins_tag x.frame.body && refuses_tags_at S x.vid ≡ false → let_in S (Ok x) ≡ Ok x
let_in-all S x h = ap (λ (c : Bool). cond c (Err (within x.vid InnerTag)) (Ok x)) h

-- the segment is the same
pub let_in-segment : (S : Overlay) (r : Result Arrival Refused) → segment_of (let_in S r) ≡ segment_of r
let_in-segment S (Err refused) = refl
let_in-segment S (Ok x) = by (tag_refused S x)
  where
    by : (c : Bool) → segment_of (cond c (Err (within x.vid InnerTag)) (Ok x)) ≡ Some x.vid
    by true = refl
    by false = refl

-- the segment that a frame came to tells alone whether it is let in
pub let_in-same : (S T : Overlay) (r : Result Arrival Refused) → ((x : Arrival) → r ≡ Ok x → segment_at S x.vid ≡ segment_at T x.vid) → let_in T r ≡ let_in S r
let_in-same S T (Err refused) here = refl
let_in-same S T (Ok x) here =
    ap (λ (g : Option Segment). cond (begins_tag x.frame.body && option_map_or refuses_tags g false) (Err (within x.vid InnerTag)) (Ok x)) (sym (here x refl))
