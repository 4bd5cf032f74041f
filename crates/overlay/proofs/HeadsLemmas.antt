-- The heads of segments that come, go and change.
use Rattle.std.proofs.Common.{◌≡◌, ℕ, Bool, true, false, cond, eqb, Option, None, Some, Result, Ok, Err, refl, sym, ap, ◌∙◌}
use Rattle.std.specs.Prelude.{OnOk, OnErr}
use Rattle.std.specs.Option.{option_map, option_map_or}
use Rattle.std.specs.Ordering.{nat_cmp}
use Rattle.std.specs.FinMap.{FinMap, empty, get, insert, remove, get-empty}
use Rattle.std.proofs.lemmas.Bool.{eqb-true}
use Rattle.overlay.proofs.PlacesLemmas.{get-insert_at, get-remove_at}
use Rattle.overlay.specs.declared.underlay.heads.SegmentHeads.{SegmentHeads}
use Rattle.overlay.specs.declared.underlay.segment.Segment.{Segment}
use Rattle.overlay.specs.declared.underlay.settings.Underlay.{Underlay}
use Rattle.overlay.specs.UnderlayFlood.{Entries}
use Rattle.overlay.specs.Heads.{AreHeads, segment_heads}
use Rattle.overlay.specs.Overlay.{Segments, flooding}
use Rattle.overlay.specs.Seats.{Seats}

abbrev heads_by : Underlay → Segment → SegmentHeads
heads_by U g = segment_heads U g.tunnels

-- a choice of nothing, of something
map_cond : {A B : Type 0} (f : A → B) (b : Bool) (x y : Option A) → cond b (option_map f x) (option_map f y) ≡ option_map f (cond b x y)
map_cond f true x y = refl
map_cond f false x y = refl

pub heads-nothing : (U : Underlay) (s : Seats) (most flood : ℕ) → s ≡ record { segments = empty; heads = empty; most = most; flood = flood } → AreHeads U s
heads-nothing U s most flood is vid =
    ap (λ (x : Seats). get x.heads vid) is ∙ get-empty nat_cmp vid
    ∙ sym (ap (λ (x : Seats). option_map (heads_by U) (get x.segments vid)) is ∙ ap (option_map (heads_by U)) (get-empty nat_cmp vid))

pub heads-insert : (U : Underlay) (s n : Seats) (vid : ℕ) (g : Segment) (h : SegmentHeads) → AreHeads U s → n ≡ record s { segments = insert s.segments vid g; heads = insert s.heads vid h } → h ≡ heads_by U g → AreHeads U n
heads-insert U s n vid g h are is made q =
    ap (λ (x : Seats). get x.heads q) is ∙ get-insert_at s.heads vid h q
    ∙ ap (λ (x : Option SegmentHeads). cond (eqb q vid) (Some h) x) (are q)
    ∙ ap (λ (x : SegmentHeads). cond (eqb q vid) (Some x) (option_map (heads_by U) (get s.segments q))) made
    ∙ map_cond (heads_by U) (eqb q vid) (Some g) (get s.segments q)
    ∙ sym (ap (λ (x : Seats). option_map (heads_by U) (get x.segments q)) is ∙ ap (option_map (heads_by U)) (get-insert_at s.segments vid g q))

pub heads-remove : (U : Underlay) (s n : Seats) (vid : ℕ) → AreHeads U s → n ≡ record s { segments = remove s.segments vid; heads = remove s.heads vid } → AreHeads U n
heads-remove U s n vid are is q =
    ap (λ (x : Seats). get x.heads q) is ∙ get-remove_at s.heads vid q
    ∙ ap (λ (x : Option SegmentHeads). cond (eqb q vid) None x) (are q)
    ∙ map_cond (heads_by U) (eqb q vid) None (get s.segments q)
    ∙ sym (ap (λ (x : Seats). option_map (heads_by U) (get x.segments q)) is ∙ ap (option_map (heads_by U)) (get-remove_at s.segments vid q))

-- another flood list changes no tunnel
flooded : (U : Underlay) (m : Segments) (vid : ℕ) (flood : Entries) (q : ℕ) → option_map (heads_by U) (get (flooding m vid flood) q) ≡ option_map (heads_by U) (get m q)
flooded U m vid flood q = by (get m vid) refl
  where
    other : (g : Segment) → get m vid ≡ Some g → (b : Bool) → eqb q vid ≡ b → cond b (Some (heads_by U g)) (option_map (heads_by U) (get m q)) ≡ option_map (heads_by U) (get m q)
    other g there true same = sym (ap (λ (i : ℕ). option_map (heads_by U) (get m i)) (eqb-true q vid same) ∙ ap (option_map (heads_by U)) there)
    other g there false differs = refl

    by : (x : Option Segment) → get m vid ≡ x → option_map (heads_by U) (get (option_map_or (λ g. insert m vid (record g { flood = flood })) (get m vid) m) q) ≡ option_map (heads_by U) (get m q)
    by None absent = ap (λ (x : Option Segment). option_map (heads_by U) (get (option_map_or (λ g. insert m vid (record g { flood = flood })) x m) q)) absent
    by (Some g) there =
        ap (λ (x : Option Segment). option_map (heads_by U) (get (option_map_or (λ g. insert m vid (record g { flood = flood })) x m) q)) there
        ∙ ap (option_map (heads_by U)) (get-insert_at m vid (record g { flood = flood }) q)
        ∙ sym (map_cond (heads_by U) (eqb q vid) (Some (record g { flood = flood })) (get m q))
        ∙ other g there (eqb q vid) refl

pub heads-flood : {A E : Type 0} (r : Result A E) (U : Underlay) (s n : Seats) (vid : ℕ) (flood : Entries) → AreHeads U s → OnOk r (n.segments ≡ flooding s.segments vid flood) → OnErr r (n.segments ≡ s.segments) → n.heads ≡ s.heads → AreHeads U n
heads-flood (Ok x) U s n vid flood are changed same heads q =
    ap (λ (m : FinMap nat_cmp SegmentHeads). get m q) heads ∙ are q ∙ sym (ap (λ (m : Segments). option_map (heads_by U) (get m q)) changed ∙ flooded U s.segments vid flood q)
heads-flood (Err e) U s n vid flood are changed same heads q =
    ap (λ (m : FinMap nat_cmp SegmentHeads). get m q) heads ∙ are q ∙ sym (ap (λ (m : Segments). option_map (heads_by U) (get m q)) same)
