-- What a part of a run counts: its own segments as the whole run does, and no others.
use Rattle.std.proofs.Common.{◌≡◌, ℕ, ◌+◌, Bool, true, false, cond, ◌&&◌, min, List, [], ◌∷◌, map, Option, Some, None, refl, sym, ap, ◌∙◌}
use Rattle.std.specs.List.{AllByRecursion}
use Rattle.std.proofs.lemmas.Bool.{eqb-true, false≢true}
use Rattle.wire.specs.declared.ether.reason.Reason.{Reason}
use Rattle.endpoint_core.specs.Counts.{Mark, Counts, mark_sent, marks_by, marks_of, most, same_segment, is_mark, one_more, counted_all, counted}
use Rattle.endpoint_core.specs.Decision.{Sent, Decision}

-- one counts as the other where the segment passes, and nothing else
abbrev pub CountsIn : (Option ℕ → Bool) → Counts → Counts → Type 0
CountsIn p k l = (segment : Option ℕ) (number : ℕ) → l segment number ≡ cond (p segment) (k segment number) 0

same_is : (x y : Option ℕ) → same_segment x y ≡ true → x ≡ y
same_is None None is = refl
same_is None (Some v) is = absurd (false≢true is)
same_is (Some u) None is = absurd (false≢true is)
same_is (Some u) (Some v) is = ap Some (eqb-true u v is)

both_left : (b c : Bool) → b && c ≡ true → b ≡ true
both_left true c is = refl
both_left false c is = absurd (false≢true is)

-- all marks of a decision are of its segment
marks-all : (P : Option ℕ → Type 0) (segment : Option ℕ) (outcomes : List Sent) → P segment → AllByRecursion (λ (m : Mark). P m.segment) (map (mark_sent segment) outcomes)
marks-all P segment [] own = tt
marks-all P segment (o ∷ os) own = (own, marks-all P segment os own)

marks-in : (P : Option ℕ → Type 0) (segment : Option ℕ) (dropped : Option Reason) (outcomes : List Sent) → P segment → AllByRecursion (λ (m : Mark). P m.segment) (marks_by segment dropped outcomes)
marks-in P segment (Some reason) outcomes own = (own, tt)
marks-in P segment None outcomes own = marks-all P segment outcomes own

module _ (p : Option ℕ → Bool) where
  -- a mark of a segment, and whether that passes
  marked : (b : Bool) (m : Mark) → p m.segment ≡ b → (x : Option ℕ) (number : ℕ) → is_mark x number m ≡ true → p x ≡ b
  marked b m own x number is = ap p (same_is x m.segment (both_left _ _ is)) ∙ own

  more-told : (k l : Counts) (m : Mark) → CountsIn p k l → p m.segment ≡ true → CountsIn p (one_more k m) (one_more l m)
  more-told k l m h own x number = by (is_mark x number m) refl
    where
      by : (b : Bool) → is_mark x number m ≡ b → cond b (min most (l x number + 1)) (l x number) ≡ cond (p x) (cond b (min most (k x number + 1)) (k x number)) 0
      by true is =
          let held : p x ≡ true = marked true m own x number is in
          ap (λ (v : ℕ). min most (v + 1)) (h x number ∙ ap (λ (c : Bool). cond c (k x number) 0) held) ∙ sym (ap (λ (c : Bool). cond c (min most (k x number + 1)) 0) held)
      by false is = h x number

  more-untold : (k l : Counts) (m : Mark) → CountsIn p k l → p m.segment ≡ false → CountsIn p (one_more k m) l
  more-untold k l m h other x number = by (is_mark x number m) refl
    where
      by : (b : Bool) → is_mark x number m ≡ b → l x number ≡ cond (p x) (cond b (min most (k x number + 1)) (k x number)) 0
      by true is =
          let passed : p x ≡ false = marked false m other x number is in
          h x number ∙ ap (λ (c : Bool). cond c (k x number) 0) passed ∙ sym (ap (λ (c : Bool). cond c (min most (k x number + 1)) 0) passed)
      by false is = h x number

  all-told : (k l : Counts) (ms : List Mark) → CountsIn p k l → AllByRecursion (λ (m : Mark). p m.segment ≡ true) ms → CountsIn p (counted_all k ms) (counted_all l ms)
  all-told k l [] h own = h
  all-told k l (m ∷ ms) h own = all-told (one_more k m) (one_more l m) ms (more-told k l m h own.0) own.1

  all-untold : (k l : Counts) (ms : List Mark) → CountsIn p k l → AllByRecursion (λ (m : Mark). p m.segment ≡ false) ms → CountsIn p (counted_all k ms) l
  all-untold k l [] h other = h
  all-untold k l (m ∷ ms) h other = all-untold (one_more k m) l ms (more-untold k l m h other.0) other.1

  -- a decision that is told, and one that isn't
  pub counted-told : (k l : Counts) (d : Decision) → CountsIn p k l → p d.segment ≡ true → CountsIn p (counted k d) (counted l d)
  counted-told k l d h own = all-told k l (marks_of d) h (marks-in (λ segment. p segment ≡ true) d.segment d.dropped d.outcomes own)

  pub counted-untold : (k l : Counts) (d : Decision) → CountsIn p k l → p d.segment ≡ false → CountsIn p (counted k d) l
  counted-untold k l d h other = all-untold k l (marks_of d) h (marks-in (λ segment. p segment ≡ false) d.segment d.dropped d.outcomes other)
