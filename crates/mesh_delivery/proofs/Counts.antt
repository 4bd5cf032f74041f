-- The counts of what left and of what is on its way, over one step.
use Rattle.std.proofs.Common.{◌≡◌, ℕ, ◌+◌, ◌≤◌, ◌<◌, Bool, true, false, cond, not, ◌&&◌, refl, sym, ap, subst, Some, None, List, [], ◌∷◌, ◌++◌, arith, eqb, le_trans}
use Rattle.std.specs.List.{AllByRecursion}
use Rattle.std.proofs.lemmas.Bool.{eqb-true}
use Rattle.std.proofs.lemmas.Bool.Decides.{nat_tests}
use Rattle.overlay.specs.declared.underlay.settings.Underlay.{Underlay}
use Rattle.overlay.specs.UnderlaySettings.{is_own}
use Rattle.endpoint_core.specs.Settings.{Settings, SegmentSettings, segment_at}
use Rattle.endpoint_core.specs.Arrival.{Arrival}
use Rattle.endpoint_core.specs.Decision.{Sent}
use Rattle.mesh_delivery.specs.Mesh.{Origin, Flying, Left, left_of, flying_of}
use Rattle.mesh_delivery.specs.Offspring.{is_left}
use Rattle.mesh_delivery.proofs.Counting.{how_many, how_many-append, All_map}
use Rattle.mesh_delivery.proofs.Sent.{is_for, first_false, second_false, left-count, left-none, flying-count, flying-none}
use Rattle.mesh_delivery.proofs.Steps.{Sends, sends}

-- ---- numbers

none_old : {X : Type 0} (number_of : X → ℕ) (test : X → Bool) (next number : ℕ) → next ≤ number → ((x : X) → number_of x < number → test x ≡ false) → (xs : List X) → AllByRecursion (λ x. number_of x < next) xs → how_many test xs ≡ 0
none_old number_of test next number late fails [] h = refl
none_old number_of test next number late fails (x ∷ xs) h =
    both (ap (λ (b : Bool). cond b 1 0) (fails x (trans h.0 late))) (none_old number_of test next number late fails xs h.1)
  where
    both : {a b : ℕ} → a ≡ 0 → b ≡ 0 → a + b ≡ 0
    both h k = omega arith

    trans : {a b c : ℕ} → a < b → b ≤ c → a < c
    trans h k = omega arith

lower : (a b : ℕ) → a < b → eqb a b ≡ false
lower a b h = grind (arith, nat_tests)

pub unequal : (a b : ℕ) → (b ≡ a → ⊥) → eqb a b ≡ false
unequal a b h = grind (arith, nat_tests)

-- two parts that began empty
two_new : (a b c d : ℕ) → a + c ≤ 1 → b ≡ 0 → d ≡ 0 → (a + b) + (c + d) ≤ 1
two_new a b c d h k l = omega arith

two_old : (a b c d : ℕ) → b + d ≤ 1 → a ≡ 0 → c ≡ 0 → (a + b) + (c + d) ≤ 1
two_old a b c d h k l = omega arith

one_part : (a c : ℕ) → a ≤ 1 → c ≡ 0 → a + c ≤ 1
one_part a c h k = omega arith

other_part : (a c : ℕ) → a ≡ 0 → c ≤ 1 → a + c ≤ 1
other_part a c h k = omega arith

pub regroup : (new left rest one all : ℕ) → new ≤ one → all ≡ one + rest → left + all ≤ 1 → (new + left) + rest ≤ 1
regroup new left rest one all h e k = omega arith

pub less_one : (left rest one all : ℕ) → all ≡ one + rest → left + all ≤ 1 → left + rest ≤ 1
less_one left rest one all e k = omega arith

same_le : {a b : ℕ} → a ≡ b → a ≤ b
same_le h = omega arith

-- ---- the counts after a local frame

pub counts-local : (U : ℕ → Underlay) (origin : Origin) (S : Settings) (x : Arrival) (sent : List Sent) (left : List Left) (flying : List Flying) → origin.vid ≡ x.vid
    → Sends S x sent → ((n : ℕ) (s : SegmentSettings) → segment_at S x.vid ≡ Some s → how_many (λ r. is_own (U n) r.addr) s.flood ≤ 1)
    → ((number n p : ℕ) → how_many (is_left number n p) left + how_many (is_for number n (U n)) flying ≤ 1)
    → AllByRecursion (λ y. y.origin.number < origin.number) left → AllByRecursion (λ y. y.origin.number < origin.number) flying
    → (number n p : ℕ) → how_many (is_left number n p) (left_of origin origin.endpoint S origin.vid None sent ++ left) + how_many (is_for number n (U n)) (flying_of origin S origin.vid sent ++ flying) ≤ 1
counts-local U origin S x sent left flying here sends once counts old_left old_flying number n p =
    subst (λ (k : ℕ). k ≤ 1)
    (λ i. sym (how_many-append (is_left number n p) (left_of origin origin.endpoint S origin.vid None sent) left) i
    + sym (how_many-append (is_for number n (U n)) (flying_of origin S origin.vid sent) flying) i)
    (by_number (eqb origin.number number) refl)
  where
    new_left : ℕ
    new_left = how_many (is_left number n p) (left_of origin origin.endpoint S origin.vid None sent)

    new_flying : ℕ
    new_flying = how_many (is_for number n (U n)) (flying_of origin S origin.vid sent)

    by_endpoint : (b : Bool) → eqb origin.endpoint n ≡ b → new_left + new_flying ≤ 1
    by_endpoint true e = one_part _ _ (le_trans (left-count origin origin.endpoint S origin.vid None number n p sent) (sends.locals p))
        (flying-none origin S origin.vid (is_for number n (U n)) (λ kind a octets. second_false (eqb origin.number number) (not (eqb origin.endpoint n)) (is_own (U n) a) (ap not e)) sent)
    by_endpoint false e = other_part _ _
        (left-none origin origin.endpoint S origin.vid None (is_left number n p) (λ q octets. second_false (eqb origin.number number) (eqb origin.endpoint n) (eqb q p) e) sent)
        (le_trans (flying-count origin S origin.vid number n (U n) sent) (sends.remotes (U n) (once n)))

    by_number : (b : Bool) → eqb origin.number number ≡ b → (new_left + how_many (is_left number n p) left) + (new_flying + how_many (is_for number n (U n)) flying) ≤ 1
    by_number true e =
        let same : origin.number ≡ number = eqb-true origin.number number e in
        two_new _ _ _ _ (by_endpoint (eqb origin.endpoint n) refl)
        (none_old (λ y. y.origin.number) (is_left number n p) origin.number number (same_le same) (λ y l. first_false (eqb y.origin.number number) ((eqb y.endpoint n) && (eqb y.port p)) (lower y.origin.number number l)) left old_left)
        (none_old (λ y. y.origin.number) (is_for number n (U n)) origin.number number (same_le same) (λ y l. first_false (eqb y.origin.number number) (not (eqb y.origin.endpoint n) && is_own (U n) y.addr) (lower y.origin.number number l)) flying old_flying)
    by_number false e = two_old _ _ _ _ (counts number n p)
        (left-none origin origin.endpoint S origin.vid None (is_left number n p) (λ q octets. first_false (eqb origin.number number) ((eqb origin.endpoint n) && (eqb q p)) e) sent)
        (flying-none origin S origin.vid (is_for number n (U n)) (λ kind a octets. first_false (eqb origin.number number) (not (eqb origin.endpoint n) && is_own (U n) a) e) sent)

pub later : {X : Type 0} (number_of : X → ℕ) (next : ℕ) (xs : List X) → AllByRecursion (λ x. number_of x < next) xs → AllByRecursion (λ x. number_of x < next + 1) xs
later number_of next xs h = All_map (λ x. number_of x < next) (λ x. number_of x < next + 1) (λ x l. more l) xs h
  where
    more : {a : ℕ} → a < next → a < next + 1
    more l = omega arith

pub this_one : (next : ℕ) → next < next + 1
this_one next = omega arith
