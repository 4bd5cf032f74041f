-- How labels fall.
use Rattle.std.proofs.Common.{◌≡◌, ℕ, ◌+◌, ◌<◌, ◌≤◌, zero, suc, Bool, true, false, ◌||◌, List, [], ◌∷◌, length, refl, sym, ◌∙◌, get_or, arith, below_more}
use Rattle.std.proofs.lemmas.List.Elements.{All-get_or}
use Rattle.fabric_ways.specs.Labels.{IsFaithful, Links, weigh}

-- what a pass over the first i links leaves
pub record Passed (old now : ℕ → ℕ) (links : List (ℕ × ℕ)) (i : ℕ) (new : Bool) (d : ℕ × ℕ) : Type 0 where
  pub lower : (q : ℕ) → now q ≤ old q
  pub keeps : (f : ℕ → ℕ) → Links f links → IsFaithful f old → IsFaithful f now
  pub same : new ≡ false → (q : ℕ) → now q ≡ old q
  pub linked : new ≡ false → (k : ℕ) → k < i → now (get_or links k d).0 ≡ now (get_or links k d).1
  pub fewer : new ≡ true → weigh now links < weigh old links

-- ---- weights

weigh-lower : (old now : ℕ → ℕ) → ((q : ℕ) → now q ≤ old q) → (links : List (ℕ × ℕ)) → weigh now links ≤ weigh old links
weigh-lower old now lower [] = omega arith
weigh-lower old now lower (l ∷ ls) = omega (arith, lower l.0, lower l.1, weigh-lower old now lower ls)

weigh-fewer : (old now : ℕ → ℕ) → ((q : ℕ) → now q ≤ old q) → (links : List (ℕ × ℕ)) (i : ℕ) (d : ℕ × ℕ) → i < length links
    → now (get_or links i d).0 + now (get_or links i d).1 < old (get_or links i d).0 + old (get_or links i d).1 → weigh now links < weigh old links
weigh-fewer old now lower [] i d lt h = absurd (omega arith)
weigh-fewer old now lower (l ∷ ls) zero d lt h = omega (arith, weigh-lower old now lower ls)
weigh-fewer old now lower (l ∷ ls) (suc i) d lt h = omega (arith, lower l.0, lower l.1, weigh-fewer old now lower ls i d (omega arith) h)

-- ---- one link

-- what joining the two numbers of a link leaves
pub record Joined (now next : ℕ → ℕ) (first last : ℕ) (two : Bool) : Type 0 where
  pub lower : (q : ℕ) → next q ≤ now q
  pub keeps : (f : ℕ → ℕ) → f first ≡ f last → IsFaithful f now → IsFaithful f next
  pub same : two ≡ false → ((q : ℕ) → next q ≡ now q) × (now first ≡ now last)
  pub fewer : two ≡ true → next first + next last < now first + now last

pub Passed-more : (old now next : ℕ → ℕ) (links : List (ℕ × ℕ)) (i : ℕ) (new two : Bool) (d : ℕ × ℕ)
    → Passed old now links i new d → i < length links → Joined now next (get_or links i d).0 (get_or links i d).1 two
    → Passed old next links (i + 1) (new || two) d
Passed-more old now next links i new two d p lt j = record {
  lower = λ q. omega (arith, p.lower q, j.lower q);
  keeps = λ f all h. j.keeps f (All-get_or (λ l. f l.0 ≡ f l.1) links i d lt all) (p.keeps f all h);
  same = both_same new two p.same j.same;
  linked = both_linked new two p.linked j.same;
  fewer = both_fewer new two p.fewer j.fewer;
}
  where
    both_same : (a b : Bool) → (a ≡ false → (q : ℕ) → now q ≡ old q)
        → (b ≡ false → ((q : ℕ) → next q ≡ now q) × (now (get_or links i d).0 ≡ now (get_or links i d).1)) → (a || b) ≡ false → (q : ℕ) → next q ≡ old q
    both_same true b f g e q = absurd (cc)
    both_same false true f g e q = absurd (cc)
    both_same false false f g e q = (g refl).0 q ∙ f refl q

    both_linked : (a b : Bool) → (a ≡ false → (k : ℕ) → k < i → now (get_or links k d).0 ≡ now (get_or links k d).1)
        → (b ≡ false → ((q : ℕ) → next q ≡ now q) × (now (get_or links i d).0 ≡ now (get_or links i d).1)) → (a || b) ≡ false
        → (k : ℕ) → k < i + 1 → next (get_or links k d).0 ≡ next (get_or links k d).1
    both_linked true b f g e = absurd (cc)
    both_linked false true f g e = absurd (cc)
    both_linked false false f g e = below_more (λ k. next (get_or links k d).0 ≡ next (get_or links k d).1) i
        (λ k b. (g refl).0 _ ∙ f refl k b ∙ sym ((g refl).0 _))
        ((g refl).0 _ ∙ (g refl).1 ∙ sym ((g refl).0 _))

    both_fewer : (a b : Bool) → (a ≡ true → weigh now links < weigh old links)
        → (b ≡ true → next (get_or links i d).0 + next (get_or links i d).1 < now (get_or links i d).0 + now (get_or links i d).1) → (a || b) ≡ true
        → weigh next links < weigh old links
    both_fewer true b f g e = omega (arith, f refl, weigh-lower now next j.lower links)
    both_fewer false true f g e = omega (arith, weigh-fewer now next j.lower links i d lt (g refl), weigh-lower old now p.lower links)
    both_fewer false false f g e = absurd (cc)
