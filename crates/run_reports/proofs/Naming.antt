-- Names are read back from their texts, and from no others.
use Rattle.std.proofs.Common.{◌≡◌, ◌≢◌, ℕ, zero, suc, ◌+◌, ◌<◌, ◌^◌, All, Bool, true, false, cond, eqb, nat_eq, nat_lt, ◌&&◌, List, [], ◌∷◌, ◌++◌, codes, decimal, length, take, drop, get_or, Option, Some, None, refl, sym, ap, ◌∙◌, arith, append_assoc}
use Rattle.std.proofs.lemmas.Bool.{eq-eqb, ne_eqb, eqb-true, cond-true, cond-false, lt-ltb}
use Rattle.std.proofs.lemmas.List.Elements.{All-head, All-tail}
use Rattle.std.proofs.lemmas.Slice.Eq.{bytes_eq-Decides}
use Rattle.std.specs.Str.{bytes_eq}
use Rattle.line_words.specs.Numbers.{number_of}
use Rattle.line_words.proofs.Decimals.{lacks, lacks_decimal, number_decimal, number_exact}
use Rattle.line_words.proofs.Fronts.{before_stop, behind_stop}
use Rattle.line_words.proofs.Splits.{IsNot, before_at, behind_at}
use Rattle.timeline.specs.Words.{source_word}
use Rattle.timeline.specs.declared.source.Source.{Source}
use Rattle.timeline.specs.declared.source.Source.TheVariants.{Changes, Tap}
use Rattle.timeline.specs.declared.source.Tap.TheVariants.{Port, Underlay}
use Rattle.run_reports.specs.declared.reading.Name.{Name}
use Rattle.run_reports.specs.Reading.{FitsSource, alone_in, before_colon, behind_colon, has_colon, in_run, in_source, is_name, name_in, port_in, same_source, source_in, text_of}

-- ---- the first colon

no_colon : (t : List ℕ) → lacks 58 t ≡ true → has_colon t ≡ false
no_colon [] h = refl
no_colon (c ∷ cs) h = by (eqb c 58) h (λ k. no_colon cs k)
  where
    by : (q : Bool) → cond q false (lacks 58 cs) ≡ true → (lacks 58 cs ≡ true → has_colon cs ≡ false) → cond q true (has_colon cs) ≡ false
    by true k more = absurd cc
    by false k more = more k

colon_between : (w r : List ℕ) → has_colon (w ++ 58 ∷ r) ≡ true
colon_between [] r = refl
colon_between (c ∷ cs) r = by (eqb c 58) (colon_between cs r)
  where
    by : (q : Bool) → has_colon (cs ++ 58 ∷ r) ≡ true → cond q true (has_colon (cs ++ 58 ∷ r)) ≡ true
    by true k = refl
    by false k = k

around_colon : (t : List ℕ) → has_colon t ≡ true → t ≡ before_colon t ++ 58 ∷ behind_colon t
around_colon [] h = absurd cc
around_colon (c ∷ cs) h = by (eqb c 58) refl h (λ k. around_colon cs k)
  where
    by : (q : Bool) → eqb c 58 ≡ q → cond q true (has_colon cs) ≡ true → (has_colon cs ≡ true → cs ≡ before_colon cs ++ 58 ∷ behind_colon cs) → c ∷ cs ≡ cond q [] (c ∷ before_colon cs) ++ 58 ∷ cond q cs (behind_colon cs)
    by true e k more = ap (λ d. d ∷ cs) (eqb-true c 58 e)
    by false e k more = ap (λ ds. c ∷ ds) (more k)

-- as it is found

pub colon_none : (t : List ℕ) → All (IsNot 58) t → has_colon t ≡ false
colon_none [] none = refl
colon_none (c ∷ cs) none =
    cond-false _ _ _ (ne_eqb c 58 (All-head (IsNot 58) c cs none)) ∙ colon_none cs (All-tail (IsNot 58) c cs none)

has_at : (t : List ℕ) (i : ℕ) → i < length t → get_or t i 0 ≡ 58 → has_colon t ≡ true
has_at [] i inside here = absurd (omega arith)
has_at (c ∷ cs) zero inside here = cond-true _ _ _ (eq-eqb c 58 here)
has_at (c ∷ cs) (suc i) inside here = by (eqb c 58) (has_at cs i (omega arith) here)
  where
    by : (q : Bool) → has_colon cs ≡ true → cond q true (has_colon cs) ≡ true
    by true k = refl
    by false k = k

pub colon_at : (t : List ℕ) (i : ℕ) → i < length t → get_or t i 0 ≡ 58 → ((k : ℕ) → k < i → get_or t k 0 ≢ 58)
    → (has_colon t ≡ true) × ((before_colon t ≡ take i t) × (behind_colon t ≡ drop (i + 1) t))
colon_at t i inside here before = (has_at t i inside here, (before_at 58 t i inside here before, behind_at 58 t i inside here before))

-- ---- the word of a source

lacks_number : (n : ℕ) → n < 2 ^ 64 → lacks 58 (decimal n) ≡ true
lacks_number n fits = lacks_decimal 58 n (λ d low. λ e. absurd (omega (arith, e, low))) fits

word_lacks : (s : Source) → FitsSource (Some s) → lacks 58 (source_word s) ≡ true
word_lacks Changes fits = refl
word_lacks (Tap Underlay) fits = refl
word_lacks (Tap (Port port)) fits = lacks_number port (omega (arith, fits))

source_read : (s : Source) → FitsSource (Some s) → source_in (source_word s) ≡ Some s
source_read Changes fits = refl
source_read (Tap Underlay) fits = refl
source_read (Tap (Port port)) fits = ap port_in (number_decimal port (omega (arith, fits))) ∙ cond-true _ _ _ (lt-ltb port 256 fits)

port_exact : (cs : List ℕ) (o : Option ℕ) (s : Source) → number_of cs ≡ o → port_in o ≡ Some s → 112 ∷ cs ≡ source_word s
port_exact cs None s is e = absurd cc
port_exact cs (Some n) s is e = by (nat_lt n 256) e
  where
    by : (b : Bool) → cond b (Some (Tap (Port n))) None ≡ Some s → 112 ∷ cs ≡ source_word s
    by true k =
        let same : Tap (Port n) ≡ s = cc in
        ap (λ ds. 112 ∷ ds) (number_exact cs n is).1 ∙ ap source_word same
    by false k = absurd cc

alone_exact : (c : ℕ) (cs : List ℕ) (s : Source) → alone_in c cs ≡ Some s → c ∷ cs ≡ source_word s
alone_exact c (d ∷ ds) s e = absurd cc
alone_exact c [] s e = by (eqb c 99) refl e
  where
    last : (b : Bool) → eqb c 117 ≡ b → cond b (Some (Tap Underlay)) None ≡ Some s → c ∷ [] ≡ source_word s
    last true is k = let same : Tap Underlay ≡ s = cc in ap (λ x. x ∷ []) (eqb-true c 117 is) ∙ ap source_word same
    last false is k = absurd cc

    by : (b : Bool) → eqb c 99 ≡ b → cond b (Some Changes) (cond (eqb c 117) (Some (Tap Underlay)) None) ≡ Some s → c ∷ [] ≡ source_word s
    by true is k = let same : Changes ≡ s = cc in ap (λ x. x ∷ []) (eqb-true c 99 is) ∙ ap source_word same
    by false is k = last (eqb c 117) refl k

source_exact : (w : List ℕ) (s : Source) → source_in w ≡ Some s → w ≡ source_word s
source_exact [] s e = absurd cc
source_exact (c ∷ cs) s e = by (eqb c 112) refl e
  where
    by : (b : Bool) → eqb c 112 ≡ b → cond b (port_in (number_of cs)) (alone_in c cs) ≡ Some s → c ∷ cs ≡ source_word s
    by true is k = ap (λ x. x ∷ cs) (eqb-true c 112 is) ∙ port_exact cs (number_of cs) s refl k
    by false is k = alone_exact c cs s k

-- ---- names

abbrev name : Option Source → ℕ → Name
name source number = record { source = source; number = number }

with_colon : (s : Source) (n : ℕ) → text_of (Some s) n ≡ source_word s ++ 58 ∷ decimal n
with_colon s n = append_assoc (source_word s) (codes ":") (decimal n)

reads : (s : Option Source) (n : ℕ) → FitsSource s → n < 2 ^ 64 → name_in (text_of s n) ≡ Some (record { source = s; number = n })
reads None n fits low = cond-false _ _ _ (no_colon (decimal n) (lacks_number n low)) ∙ ap in_run (number_decimal n low)
reads (Some s) n fits low =
    let w = source_word s in
    let lacks_it = word_lacks s fits in
    ap name_in (with_colon s n)
    ∙ cond-true _ _ _ (colon_between w (decimal n))
    ∙ ap (λ v. in_source (source_in v) (number_of (behind_colon (w ++ 58 ∷ decimal n)))) (before_stop 58 w (decimal n) lacks_it)
    ∙ ap (λ v. in_source (source_in w) (number_of v)) (behind_stop 58 w (decimal n) lacks_it)
    ∙ ap (λ o. in_source o (number_of (decimal n))) (source_read s fits)
    ∙ ap (in_source (Some s)) (number_decimal n low)

in_source_exact : (t : List ℕ) (o : Option Source) (p : Option ℕ) (s : Option Source) (n : ℕ) → has_colon t ≡ true → source_in (before_colon t) ≡ o → number_of (behind_colon t) ≡ p
    → in_source o p ≡ Some (record { source = s; number = n }) → t ≡ text_of s n
in_source_exact t None p s n has is_s is_n e = absurd cc
in_source_exact t (Some a) None s n has is_s is_n e = absurd cc
in_source_exact t (Some a) (Some m) s n has is_s is_n e =
    let got : name (Some a) m ≡ name s n = cc in
    around_colon t has
    ∙ ap (λ w. w ++ 58 ∷ behind_colon t) (source_exact (before_colon t) a is_s)
    ∙ ap (λ w. source_word a ++ 58 ∷ w) (number_exact (behind_colon t) m is_n).1
    ∙ sym (with_colon a m)
    ∙ ap (λ (x : Name). text_of x.source x.number) got

in_run_exact : (t : List ℕ) (p : Option ℕ) (s : Option Source) (n : ℕ) → number_of t ≡ p → in_run p ≡ Some (record { source = s; number = n }) → t ≡ text_of s n
in_run_exact t None s n is e = absurd cc
in_run_exact t (Some m) s n is e =
    let got : name None m ≡ name s n = cc in
    (number_exact t m is).1 ∙ ap (λ (x : Name). text_of x.source x.number) got

exact : (t : List ℕ) (s : Option Source) (n : ℕ) → name_in t ≡ Some (record { source = s; number = n }) → t ≡ text_of s n
exact t s n e = by (has_colon t) refl e
  where
    by : (b : Bool) → has_colon t ≡ b → cond b (in_source (source_in (before_colon t)) (number_of (behind_colon t))) (in_run (number_of t)) ≡ Some (record { source = s; number = n }) → t ≡ text_of s n
    by true is k = in_source_exact t _ _ s n is refl refl k
    by false is k = in_run_exact t _ s n refl k

-- ---- one name against another

same_itself : (s : Option Source) → same_source s s ≡ true
same_itself None = refl
same_itself (Some Changes) = refl
same_itself (Some (Tap Underlay)) = refl
same_itself (Some (Tap (Port port))) = eq-eqb port port refl

same_exact : (a b : Option Source) → same_source a b ≡ true → a ≡ b
same_exact None None h = refl
same_exact None (Some b) h = absurd cc
same_exact (Some a) None h = absurd cc
same_exact (Some Changes) (Some Changes) h = refl
same_exact (Some Changes) (Some (Tap b)) h = absurd cc
same_exact (Some (Tap a)) (Some Changes) h = absurd cc
same_exact (Some (Tap Underlay)) (Some (Tap Underlay)) h = refl
same_exact (Some (Tap Underlay)) (Some (Tap (Port b))) h = absurd cc
same_exact (Some (Tap (Port a))) (Some (Tap Underlay)) h = absurd cc
same_exact (Some (Tap (Port a))) (Some (Tap (Port b))) h = ap (λ port. Some (Tap (Port port))) (eqb-true a b h)

both : (a b : Bool) → (a && b) ≡ true → (a ≡ true) × (b ≡ true)
both true b h = (refl, h)
both false b h = absurd cc

its_own : (s : Option Source) (n : ℕ) → is_name s n (Some (record { source = s; number = n })) ≡ true
its_own s n = ap (λ b. b && same_source s s) (eq-eqb n n refl) ∙ same_itself s

is_that : (s : Option Source) (n : ℕ) (o : Option Name) → is_name s n o ≡ true → o ≡ Some (record { source = s; number = n })
is_that s n None h = absurd cc
is_that s n (Some a) h =
    let two = both (nat_eq a.number n) (same_source a.source s) h in
    (λ i. Some (record { source = same_exact a.source s two.1 i; number = eqb-true a.number n two.0 i }))

alike : (a b : Bool) → (a ≡ true → b ≡ true) → (b ≡ true → a ≡ true) → a ≡ b
alike true b f g = sym (f refl)
alike false true f g = g refl
alike false false f g = refl

-- a text is the name of a number just where it is read as such
pub is_read : (t : List ℕ) (s : Option Source) (n : ℕ) → FitsSource s → n < 2 ^ 64 → bytes_eq t (text_of s n) ≡ is_name s n (name_in t)
is_read t s n fits low =
    alike _ _
    (λ h. ap (λ u. is_name s n (name_in u)) ((bytes_eq-Decides t (text_of s n)).0 h) ∙ ap (is_name s n) (reads s n fits low) ∙ its_own s n)
    (λ h. (bytes_eq-Decides t (text_of s n)).1 (exact t s n (is_that s n (name_in t) h)))
