-- The segments of all tables: one that was adjusted, and the others.
use Rattle.std.proofs.Common.{◌≡◌, ◌≢◌, refl, ap, ◌∙◌, ℕ, ◌==◌, Bool, true, false, cond, Option, Some, None, IsSome}
use Rattle.std.specs.Option.{option_map, unwrap_or}
use Rattle.std.proofs.lemmas.Bool.{eq-eqb, ne_eqb}
use Rattle.filter_db.specs.Segment.{Segment, Segments, no_segment, aged, aged_all, segment_at, adjusted}

IsSome-map : (f : Segment → Segment) (o : Option Segment) → IsSome o → IsSome (option_map f o)
IsSome-map f None has = has
IsSome-map f (Some s) has = refl

-- a VID keeps its segment
pub IsSome-aged_all : (t vid : ℕ) (segments : Segments) → IsSome (segments vid) → IsSome (aged_all t segments vid)
IsSome-aged_all t vid segments has = IsSome-map (aged t) (segments vid) has

IsSome-adjusted_if : (b : Bool) (f : Segment → Segment) (o : Option Segment) → IsSome o → IsSome (cond b (option_map f o) o)
IsSome-adjusted_if true f o has = IsSome-map f o has
IsSome-adjusted_if false f o has = has

pub IsSome-adjusted : (vid w : ℕ) (change : Segment → Segment) (segments : Segments) → IsSome (segments w) → IsSome (adjusted vid change segments w)
IsSome-adjusted vid w change segments has = IsSome-adjusted_if (w == vid) change (segments w) has

-- the segment that was adjusted
pub adjusted-own : (vid : ℕ) (change : Segment → Segment) (segments : Segments) → adjusted vid change segments vid ≡ option_map change (segments vid)
adjusted-own vid change segments = ap (λ b. cond b (option_map change (segments vid)) (segments vid)) (eq-eqb vid vid refl)

unwrap_or-map : (f : Segment → Segment) (o : Option Segment) → IsSome o → unwrap_or (option_map f o) no_segment ≡ f (unwrap_or o no_segment)
unwrap_or-map f None has = cc
unwrap_or-map f (Some s) has = refl

pub segment_at-adjusted : (vid : ℕ) (change : Segment → Segment) (segments : Segments) → IsSome (segments vid) → segment_at vid (adjusted vid change segments) ≡ change (segment_at vid segments)
segment_at-adjusted vid change segments has = ap (λ o. unwrap_or o no_segment) (adjusted-own vid change segments) ∙ unwrap_or-map change (segments vid) has

-- the others
pub adjusted-other : (vid w : ℕ) (change : Segment → Segment) (segments : Segments) → w ≢ vid → adjusted vid change segments w ≡ segments w
adjusted-other vid w change segments other = ap (λ b. cond b (option_map change (segments w)) (segments w)) (ne_eqb w vid other)
