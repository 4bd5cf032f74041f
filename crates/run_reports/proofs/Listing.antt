-- Names in the order of their numbers.
use Rattle.std.proofs.Common.{◌≡◌, ◌≢◌, ℕ, zero, suc, ◌+◌, ◌<◌, ◌≤◌, ◌^◌, All, Bool, true, false, nat_eq, ◌&&◌, ◌||◌, List, [], ◌∷◌, ◌++◌, Bor, map, length, decimal, take, get_or, Option, Some, None, refl, sym, ap, subst, ◌∙◌, arith, add-zero}
use Rattle.std.proofs.lemmas.Bool.{eq-eqb, ne_eqb}
use Rattle.std.proofs.Math.Bool.{or_comm, and-true, and-false}
use Rattle.std.proofs.lemmas.List.{length-map, length-take, map_more}
use Rattle.std.proofs.lemmas.List.Elements.{All-nil, All-cons}
use Rattle.std.proofs.lemmas.List.Sorted.{All-permutation, list_any-IsPermutation}
use Rattle.std.specs.List.Sorted.{IsNonDecreasingBy, IsPermutation}
use Rattle.std.specs.List.{cons_option, list_any}
use Rattle.std.specs.Str.{bytes_eq}
use Rattle.timeline.specs.Words.{source_of}
use Rattle.timeline.specs.declared.event.Event.{Event}
use Rattle.timeline.specs.declared.source.Source.{Source}
use Rattle.run_reports.specs.declared.reading.Name.{Name}
use Rattle.run_reports.specs.declared.asked.Asked.{Asked}
use Rattle.run_reports.specs.Name.{name_of}
use Rattle.run_reports.specs.Report.{found_behind, is_asked}
use Rattle.run_reports.specs.Reading.{AreNamesOf, FitsSource, asked_at, asked_in, is_its, is_its_at, is_name, name_in, same_source, text_of}
use Rattle.run_reports.proofs.Naming.{is_read}
use Rattle.run_reports.proofs.Asking.{found_all}

-- ---- a list of which the rest fails a test

pub any_front : {X : Type 0} (p : X → Bool) (d : X) (xs : List X) (i : ℕ) → ((k : ℕ) → i ≤ k → k < length xs → p (get_or xs k d) ≡ false) → list_any p (take i xs) ≡ list_any p xs
any_front p d [] zero rest = refl
any_front p d [] (suc i) rest = refl
any_front p d (x ∷ xs) zero rest =
    sym (ap (λ b. b || list_any p xs) (rest 0 (omega arith) (omega arith)) ∙ sym (any_front p d xs zero (λ k le lt. rest (suc k) (omega arith) (omega (arith, lt)))))
any_front p d (x ∷ xs) (suc i) rest = ap (λ b. p x || b) (any_front p d xs i (λ k le lt. rest (suc k) (omega (arith, le)) (omega (arith, lt))))

pub any_none : {X : Type 0} (p : X → Bool) (d : X) (xs : List X) (i : ℕ) → i ≤ length xs → ((k : ℕ) → k < i → p (get_or xs k d) ≡ false) → list_any p (take i xs) ≡ false
any_none p d xs zero le before = refl
any_none p d [] (suc i) le before = absurd (omega arith)
any_none p d (x ∷ xs) (suc i) le before = ap (λ b. b || list_any p (take i xs)) (before 0 (omega arith)) ∙ any_none p d xs i (omega (arith, le)) (λ k lt. before (suc k) (omega (arith, lt)))

any_either : {X : Type 0} (p q : X → Bool) (xs : List X) → list_any (λ x. p x || q x) xs ≡ (list_any p xs || list_any q xs)
any_either p q [] = refl
any_either p q (x ∷ xs) = ap (λ b. (p x || q x) || b) (any_either p q xs) ∙ by (p x) (q x) (list_any p xs) (list_any q xs)
  where
    by : (a b c d : Bool) → ((a || b) || (c || d)) ≡ ((a || c) || (b || d))
    by true b c d = refl
    by false true true d = refl
    by false true false d = refl
    by false false true d = refl
    by false false false d = refl

-- ---- the names of a list of texts

one_more : (p : Asked → Bool) (s : Option Source) (n : ℕ) (i : ℕ) (o : Option Name) (rest : List Asked) → ((a : Name) → p (record { name = a; place = i }) ≡ is_name s n (Some a))
    → list_any p (cons_option (asked_at i o) rest) ≡ (is_name s n o || list_any p rest)
one_more p s n i None rest is = refl
one_more p s n i (Some a) rest is = ap (λ b. b || list_any p rest) (is a)

none_more : (p : Asked → Bool) (i : ℕ) (o : Option Name) (rest : List Asked) → ((a : Name) → p (record { name = a; place = i }) ≡ false)
    → list_any p (cons_option (asked_at i o) rest) ≡ list_any p rest
none_more p i None rest not = refl
none_more p i (Some a) rest not = ap (λ b. b || list_any p rest) (not a)

module _ (s : Option Source) (n : ℕ) (fits : FitsSource s) (low : n < 2 ^ 64) where
  -- whether one of them is a name
  pub any_in : (i : ℕ) (texts : List (List ℕ)) → list_any (is_its s n) (asked_in i texts) ≡ list_any (λ t. bytes_eq t (text_of s n)) texts
  any_in i [] = refl
  any_in i (t ∷ ts) =
      one_more (is_its s n) s n i (name_in t) (asked_in (suc i) ts) (λ a. refl)
      ∙ ap (λ b. b || list_any (is_its s n) (asked_in (suc i) ts)) (sym (is_read t s n fits low))
      ∙ ap (λ b. bytes_eq t (text_of s n) || b) (any_in (suc i) ts)

  none_before : (i k : ℕ) (texts : List (List ℕ)) → k < i → list_any (is_its_at s n k) (asked_in i texts) ≡ false
  none_before i k [] before = refl
  none_before i k (t ∷ ts) before =
      none_more (is_its_at s n k) i (name_in t) (asked_in (suc i) ts) (λ a. ap (λ b. is_name s n (Some a) && b) (ne_eqb i k (λ e. absurd (omega (arith, before, e)))) ∙ and-false (is_name s n (Some a)))
      ∙ none_before (suc i) k ts (omega (arith, before))

  -- whether the one at a place is
  at_place : (i j k : ℕ) (d : List ℕ) (texts : List (List ℕ)) → i + j ≡ k → j < length texts → list_any (is_its_at s n k) (asked_in i texts) ≡ bytes_eq (get_or texts j d) (text_of s n)
  at_place i j k d [] is lt = absurd (omega arith)
  at_place i zero k d (t ∷ ts) is lt =
      one_more (is_its_at s n k) s n i (name_in t) (asked_in (suc i) ts) (λ a. ap (λ b. is_name s n (Some a) && b) (eq-eqb i k (omega (arith, is))) ∙ and-true (is_name s n (Some a)))
      ∙ ap (λ b. is_name s n (name_in t) || b) (none_before (suc i) k ts (omega (arith, is)))
      ∙ or_comm (is_name s n (name_in t)) false
      ∙ sym (is_read t s n fits low)
  at_place i (suc j) k d (t ∷ ts) is lt =
      none_more (is_its_at s n k) i (name_in t) (asked_in (suc i) ts) (λ a. ap (λ b. is_name s n (Some a) && b) (ne_eqb i k (λ e. absurd (omega (arith, is, e)))) ∙ and-false (is_name s n (Some a)))
      ∙ at_place (suc i) j k d ts (omega (arith, is)) (omega (arith, lt))

  pub at_its_place : (k : ℕ) (d : List ℕ) (texts : List (List ℕ)) → k < length texts → list_any (is_its_at s n k) (asked_in 0 texts) ≡ bytes_eq (get_or texts k d) (text_of s n)
  at_its_place k d texts lt = at_place 0 k k d texts (omega arith) lt

-- each stands at a place of the list
pub all_within : (m i : ℕ) (texts : List (List ℕ)) → i + length texts ≤ m → All (λ (a : Asked). a.place < m) (asked_in i texts)
all_within m i [] le = All-nil (λ (a : Asked). a.place < m)
all_within m i (t ∷ ts) le = by (name_in t) (all_within m (suc i) ts (omega (arith, le)))
  where
    by : (o : Option Name) → All (λ (a : Asked). a.place < m) (asked_in (suc i) ts) → All (λ (a : Asked). a.place < m) (cons_option (asked_at i o) (asked_in (suc i) ts))
    by None rest = rest
    by (Some a) rest = All-cons (λ (a : Asked). a.place < m) (record { name = a; place = i }) (asked_in (suc i) ts) (omega (arith, le)) rest

-- ---- in the order of their numbers

abbrev pub blank : Asked
blank = record { name = record { source = None; number = 0 }; place = 0 }

pub other : (s : Option Source) (n : ℕ) (a : Asked) → a.name.number ≢ n → is_its s n a ≡ false
other s n a not = ap (λ b. b && same_source a.name.source s) (ne_eqb a.name.number n not)

pub other_at : (s : Option Source) (n k : ℕ) (a : Asked) → a.name.number ≢ n → is_its_at s n k a ≡ false
other_at s n k a not = ap (λ b. b && nat_eq a.place k) (other s n a not)

-- behind one of another number that isn't less, none is that one
pub rising_from : (names : List Asked) (at k n : ℕ) → IsNonDecreasingBy (λ (a : Asked). a.name.number) names → at ≤ k → k < length names
    → ((j : ℕ) → at ≤ j → j < length names → n ≤ (get_or names j blank).name.number) → (get_or names at blank).name.number ≢ n → n < (get_or names k blank).name.number
rising_from names at k n up le lt from not =
    let here : n ≤ (get_or names at blank).name.number = from at (omega arith) (omega arith) in
    let more : (get_or names at blank).name.number ≤ (get_or names k blank).name.number = up at k blank le lt in
    omega (arith, here, more, not)

-- ---- a read list in the order of its numbers

pub same_in_order : (texts : List (List ℕ)) (read names : List Asked) → read ≡ asked_in 0 texts → IsPermutation read names → IsNonDecreasingBy (λ (a : Asked). a.name.number) names → AreNamesOf texts names
same_in_order texts read names is moved up = record {
  rising = up;
  within = All-permutation (λ (a : Asked). a.place < length texts) read names moved (subst (All (λ (a : Asked). a.place < length texts)) (sym is) (all_within (length texts) 0 texts (omega arith)));
  same = λ p. sym (list_any-IsPermutation p read names moved) ∙ ap (list_any p) is;
}

-- one text more
pub asked_more : (i : ℕ) (texts : List (List ℕ)) (t : List ℕ) → asked_in i (texts ++ t ∷ []) ≡ asked_in i texts ++ cons_option (asked_at (i + length texts) (name_in t)) []
asked_more i [] t = ap (λ k. cons_option (asked_at k (name_in t)) []) (sym (add-zero i))
asked_more i (u ∷ us) t =
    let next : suc i + length us ≡ i + suc (length us) = omega arith in
    ap (cons_option (asked_at i (name_in u))) (asked_more (suc i) us t)
    ∙ out (asked_at i (name_in u)) (asked_in (suc i) us) _
    ∙ ap (λ k. cons_option (asked_at i (name_in u)) (asked_in (suc i) us) ++ cons_option (asked_at k (name_in t)) []) next
  where
    out : (o : Option Asked) (xs ys : List Asked) → cons_option o (xs ++ ys) ≡ cons_option o xs ++ ys
    out None xs ys = refl
    out (Some a) xs ys = refl

pub read_more : (texts : List (Bor (List ℕ))) (i : ℕ) (d : Bor (List ℕ)) (t : List ℕ) (o : Option Name) → i < length texts → t ≡ (get_or texts i d).now → o ≡ name_in t
    → asked_in 0 (map (λ text. text.now) (take i texts)) ++ cons_option (asked_at i o) [] ≡ asked_in 0 (map (λ text. text.now) (take (i + 1) texts))
read_more texts i d t o lt is read =
    let now : Bor (List ℕ) → List ℕ = λ text. text.now in
    let before = map now (take i texts) in
    let many : 0 + length before ≡ i = omega (arith, length-map (take i texts) now, length-take i texts, lt) in
    sym (
    ap (asked_in 0) (map_more now texts i d lt)
    ∙ asked_more 0 before (get_or texts i d).now
    ∙ ap (λ k. asked_in 0 before ++ cons_option (asked_at k (name_in (get_or texts i d).now)) []) many
    ∙ ap (λ r. asked_in 0 before ++ cons_option (asked_at i r) []) (sym (read ∙ ap name_in is)))

-- ---- what an event marks

module _ (n : ℕ) (e : Event) (low : n < 2 ^ 64) (low_there : e.number < 2 ^ 64) (fits : FitsSource (Some (source_of e.happening))) (texts : List (List ℕ)) (names : List Asked) (are : AreNamesOf texts names) where
  pub asked_either : is_asked n e texts ≡ (list_any (is_its None n) names || list_any (is_its (Some (source_of e.happening)) e.number) names)
  asked_either =
      any_either (λ t. bytes_eq t (text_of None n)) (λ t. bytes_eq t (text_of (Some (source_of e.happening)) e.number)) texts
      ∙ (λ i. sym (are.same (is_its None n) ∙ any_in None n tt low 0 texts) i || sym (are.same (is_its (Some (source_of e.happening)) e.number) ∙ any_in (Some (source_of e.happening)) e.number fits low_there 0 texts) i)

  pub marked_either : (old mid new : List Bool) → length old ≡ length texts → length new ≡ length texts
      → ((k : ℕ) (b : Bool) → get_or mid k b ≡ (list_any (is_its_at None n k) names || get_or old k b))
      → ((k : ℕ) (b : Bool) → get_or new k b ≡ (list_any (is_its_at (Some (source_of e.happening)) e.number k) names || get_or mid k b))
      → new ≡ found_behind n e texts old
  marked_either old mid new many_old many first then' = found_all n e texts old new many_old many (λ k d b lt.
      then' k b
      ∙ (λ i. (are.same (is_its_at (Some (source_of e.happening)) e.number k) ∙ at_its_place (Some (source_of e.happening)) e.number fits low_there k d texts lt) i || first k b i)
      ∙ ap (λ x. bytes_eq (get_or texts k d) (name_of e) || (x || get_or old k b)) (are.same (is_its_at None n k) ∙ at_its_place None n tt low k d texts lt)
      ∙ turned (bytes_eq (get_or texts k d) (name_of e)) (bytes_eq (get_or texts k d) (decimal n)) (get_or old k b))
    where
      turned : (a b c : Bool) → (a || (b || c)) ≡ ((b || a) || c)
      turned true true c = refl
      turned true false c = refl
      turned false true c = refl
      turned false false c = refl
