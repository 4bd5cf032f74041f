-- Facts that are folded tell what they told one by one, and no two of them could be one.
use Rattle.std.proofs.Common.{◌≡◌, ◌∙◌, refl, sym, ap, append_assoc, arith, ℕ, ◌+◌, ◌-◌, ◌≤◌, ◌==◌, Bool, true, false, cond}
use Rattle.std.proofs.Common.{List, [], ◌∷◌, ◌++◌, map, Option, Some, None}
use Rattle.std.specs.Prelude.{IfSome, ⊤}
use Rattle.std.specs.List.{AllByRecursion, flat_map, range_with_len}
use Rattle.std.specs.Option.{option_map_or}
use Rattle.std.proofs.lemmas.Bool.{eqb-true}
use Rattle.std.proofs.lemmas.List.FromFn.{map-range_with_len_more}
use Rattle.event_story.specs.Neighbours.{down_joined, folded, folded_from, joined, outside_joined}
use Rattle.event_story.specs.declared.fact.Fact.{Fact}
use Rattle.event_story.specs.declared.fact.Fact.TheVariants as facts
use Rattle.story_laws.specs.Told.{AreApart, one_by_one, ports_between}

-- ---- one fact

-- a fact is about one port, if it is about ports
abbrev pub IsAlone : Fact → Type 0
IsAlone (facts.PortsDown first last) = first ≡ last
IsAlone (facts.NoMembers first last) = first ≡ last
IsAlone fact = ⊤

-- it is about one or more
abbrev Rises : Fact → Type 0
Rises (facts.PortsDown first last) = first ≤ last
Rises (facts.NoMembers first last) = first ≤ last
Rises fact = ⊤

rises : (f : Fact) → IsAlone f → Rises f
rises (facts.PortsDown first last) one = omega (arith, one)
rises (facts.NoMembers first last) one = omega (arith, one)
rises fact one = tt

module _ (P : ℕ → ℕ → Fact) where
  single : (first last : ℕ) → first ≡ last → map (λ p. P p p) (ports_between first last) ≡ P first last ∷ []
  single first last one =
      let none : last + 1 - first ≡ 1 = omega (arith, one) in
      ap (λ n. map (λ p. P p p) (range_with_len first n)) none ∙ ap (λ n. P first n ∷ []) one

  more : (first last next end : ℕ) → first ≤ last → next ≡ last + 1 → next ≡ end
      → map (λ p. P p p) (ports_between first end)
      ≡ map (λ p. P p p) (ports_between first last) ++ map (λ p. P p p) (ports_between next end)
  more first last next end low follows one =
      let longer : end + 1 - first ≡ last + 1 - first + 1 = omega (arith, follows, one, low) in
      ap (λ n. map (λ p. P p p) (range_with_len first n)) longer
      ∙ map-range_with_len_more (λ p. P p p) first (last + 1 - first) next (omega (arith, follows, low))
      ∙ ap (λ l. map (λ p. P p p) (ports_between first last) ++ l) (ap (λ n. P next n ∷ []) one ∙ sym (single next end one))

-- it tells itself
alone : (f : Fact) → IsAlone f → one_by_one f ≡ f ∷ []
alone (facts.PortsDown first last) one = single facts.PortsDown first last one
alone (facts.NoMembers first last) one = single facts.NoMembers first last one
alone fact one = refl

pub all_alone : (fs : List Fact) → AllByRecursion IsAlone fs → flat_map one_by_one fs ≡ fs
all_alone [] ones = refl
all_alone (f ∷ fs) ones = (λ i. alone f ones.0 i ++ all_alone fs ones.1 i)

-- ---- two facts as one

abbrev Tells : Fact → Fact → Option Fact → Type 0
Tells f g both = IfSome both (λ h. Rises h × (one_by_one h ≡ one_by_one f ++ one_by_one g))

join-tells : (f g : Fact) → Rises f → IsAlone g → Tells f g (joined f g)
join-tells (facts.PortsDown first last) (facts.PortsDown next end) low one = by (next == last + 1) refl
  where
    by : (q : Bool) → (next == last + 1) ≡ q
        → Tells (facts.PortsDown first last) (facts.PortsDown next end) (cond q (Some (facts.PortsDown first end)) None)
    by true is =
        let follows = eqb-true next (last + 1) is in
        (omega (arith, low, follows, one), more facts.PortsDown first last next end low follows one)
    by false is = tt
join-tells (facts.NoMembers first last) (facts.NoMembers next end) low one = by (next == last + 1) refl
  where
    by : (q : Bool) → (next == last + 1) ≡ q
        → Tells (facts.NoMembers first last) (facts.NoMembers next end) (cond q (Some (facts.NoMembers first end)) None)
    by true is =
        let follows = eqb-true next (last + 1) is in
        (omega (arith, low, follows, one), more facts.NoMembers first last next end low follows one)
    by false is = tt
join-tells f g low one = tt

-- ---- all of them

from-tells : (f : Fact) (fs : List Fact) → Rises f → AllByRecursion IsAlone fs
    → flat_map one_by_one (folded_from f fs) ≡ one_by_one f ++ flat_map one_by_one fs
from-tells f [] low ones = refl
from-tells f (g ∷ gs) low ones =
    by (joined f g) (join-tells f g low ones.0) (from-tells g gs (rises g ones.0) ones.1) (λ h more. from-tells h gs more ones.1)
  where
    by : (both : Option Fact) → Tells f g both → flat_map one_by_one (folded_from g gs) ≡ one_by_one g ++ flat_map one_by_one gs
        → ((h : Fact) → Rises h → flat_map one_by_one (folded_from h gs) ≡ one_by_one h ++ flat_map one_by_one gs)
        → flat_map one_by_one (option_map_or (λ h. folded_from h gs) both (f ∷ folded_from g gs))
        ≡ one_by_one f ++ (one_by_one g ++ flat_map one_by_one gs)
    by None tells behind further = ap (λ l. one_by_one f ++ l) behind
    by (Some h) tells behind further =
        further h tells.0 ∙ ap (λ l. l ++ flat_map one_by_one gs) tells.1
        ∙ append_assoc (one_by_one f) (one_by_one g) (flat_map one_by_one gs)

pub folded-tells : (fs : List Fact) → AllByRecursion IsAlone fs → flat_map one_by_one (folded fs) ≡ fs
folded-tells [] ones = refl
folded-tells (f ∷ fs) ones = from-tells f fs (rises f ones.0) ones.1 ∙ all_alone (f ∷ fs) ones

-- ---- no two of them are one

-- what doesn't join a fact doesn't join it where it may come
stays : (join : Fact → Option Fact) (q : Bool) (h : Fact) → join h ≡ None → IfSome (cond q (Some h) None) (λ h. join h ≡ None)
stays join false h none = tt
stays join true h none = none

-- what doesn't join some ports doesn't join them where they are more
longer : (P : ℕ → ℕ → Fact) (a last end : ℕ) (p : Bool) → cond p (Some (P a last)) None ≡ None → cond p (Some (P a end)) None ≡ None
longer P a last end false is = refl
longer P a last end true is = absurd cc

-- what ports that are down don't join, they don't join either once that has taken in another
stays-down : (a b : ℕ) (g k : Fact) → down_joined a b g ≡ None → IfSome (joined g k) (λ h. down_joined a b h ≡ None)
stays-down a b (facts.PortsDown first last) (facts.PortsDown next end) none =
    stays (down_joined a b) (next == last + 1) (facts.PortsDown first end) (longer facts.PortsDown a last end (first == b + 1) none)
stays-down a b (facts.NoMembers first last) (facts.NoMembers next end) none = stays (down_joined a b) (next == last + 1) (facts.NoMembers first end) refl
stays-down a b (facts.PortsDown first last) k none = tt
stays-down a b (facts.NoMembers first last) k none = tt
stays-down a b g k none = tt

-- the same of ports that are no members
stays-outside : (a b : ℕ) (g k : Fact) → outside_joined a b g ≡ None → IfSome (joined g k) (λ h. outside_joined a b h ≡ None)
stays-outside a b (facts.NoMembers first last) (facts.NoMembers next end) none =
    stays (outside_joined a b) (next == last + 1) (facts.NoMembers first end) (longer facts.NoMembers a last end (first == b + 1) none)
stays-outside a b (facts.PortsDown first last) (facts.PortsDown next end) none = stays (outside_joined a b) (next == last + 1) (facts.PortsDown first end) refl
stays-outside a b (facts.NoMembers first last) k none = tt
stays-outside a b (facts.PortsDown first last) k none = tt
stays-outside a b g k none = tt

-- what joins nothing joins nothing more
stays-none : (join : Fact → Option Fact) → ((h : Fact) → join h ≡ None) → (both : Option Fact) → IfSome both (λ h. join h ≡ None)
stays-none join never None = tt
stays-none join never (Some h) = never h

stays-apart : (f g k : Fact) → joined f g ≡ None → IfSome (joined g k) (λ h. joined f h ≡ None)
stays-apart (facts.PortsDown a b) g k none = stays-down a b g k none
stays-apart (facts.NoMembers a b) g k none = stays-outside a b g k none
stays-apart f g k none = stays-none (joined f) (λ h. refl) (joined g k)

-- so a fact stands apart from what is folded behind it
front-apart : (f g : Fact) (gs : List Fact) → joined f g ≡ None → AreApart (folded_from g gs) → AreApart (f ∷ folded_from g gs)
front-apart f g [] none apart = (none, tt)
front-apart f g (k ∷ gs) none apart = by (joined g k) (stays-apart f g k none) apart (λ h more. front-apart f h gs more)
  where
    by : (both : Option Fact) → IfSome both (λ h. joined f h ≡ None)
        → AreApart (option_map_or (λ h. folded_from h gs) both (g ∷ folded_from k gs))
        → ((h : Fact) → joined f h ≡ None → AreApart (folded_from h gs) → AreApart (f ∷ folded_from h gs))
        → AreApart (f ∷ option_map_or (λ h. folded_from h gs) both (g ∷ folded_from k gs))
    by None stays behind further = (none, behind)
    by (Some h) stays behind further = further h stays behind

from-apart : (f : Fact) (fs : List Fact) → AreApart (folded_from f fs)
from-apart f [] = tt
from-apart f (g ∷ gs) = by (joined f g) refl (from-apart g gs) (λ h. from-apart h gs)
  where
    by : (both : Option Fact) → joined f g ≡ both → AreApart (folded_from g gs) → ((h : Fact) → AreApart (folded_from h gs))
        → AreApart (option_map_or (λ h. folded_from h gs) both (f ∷ folded_from g gs))
    by None is behind further = front-apart f g gs is behind
    by (Some h) is behind further = further h

pub folded-apart : (fs : List Fact) → AreApart (folded fs)
folded-apart [] = tt
folded-apart (f ∷ fs) = from-apart f fs
