-- How a list of slots, linked both ways, changes.
use Rattle.std.proofs.Common.{◌≡◌, ◌≢◌, ℕ, ◌<◌, Bool, true, false, ◌||◌, List, [], ◌∷◌, ◌++◌, length, set, Option, Some, None, nat_eq, refl, sym, ap, ◌∙◌, subst, arith, inl, inr, ◌⊎◌}
use Rattle.std.proofs.lemmas.List.{get_or-set_same, get_or-set_other, length-set}
use Rattle.std.proofs.lemmas.Bool.Decides.{nat_tests}
use Rattle.shared_tables.specs.declared.links.Links.{Links}
use Rattle.shared_tables.specs.Pool.{links_at, alone}
use Rattle.shared_tables.specs.LinkSteps.{next_set, previous_set, unlinked, pushed_back}
use Rattle.shared_tables.specs.Line.{first_of, last_of, IsLinked, is_on, IsApart}

-- or, and its parts
or_left : (a b : Bool) → a || b ≡ false → a ≡ false
or_left true b h = h
or_left false b h = refl

or_right : (a b : Bool) → a || b ≡ false → b ≡ false
or_right true b h = let no : true ≡ false = h in cc
or_right false b h = h

-- a slot that isn't on the list isn't its first
other : (i j : ℕ) → nat_eq i j ≡ false → j ≢ i
other i j h = grind (arith, nat_tests)

-- the last of a list that isn't empty
abbrev pub last_in : List ℕ → ℕ → ℕ
last_in [] k = k
last_in (x ∷ xs) k = last_in xs x

pub last_of-cons : (xs : List ℕ) (k : ℕ) → last_of xs (Some k) ≡ Some (last_in xs k)
last_of-cons [] k = refl
last_of-cons (x ∷ xs) k = last_of-cons xs x

-- what isn't on a list isn't its last
pub last_other : (i : ℕ) (xs : List ℕ) (k : ℕ) → nat_eq i k ≡ false → is_on i xs ≡ false → last_in xs k ≢ i
last_other i [] k here there = other i k here
last_other i (x ∷ xs) k here there = last_other i xs x (or_left (nat_eq i x) (is_on i xs) there) (or_right (nat_eq i x) (is_on i xs) there)

first_of-append : (xs ys : List ℕ) (a : Option ℕ) → first_of (xs ++ ys) a ≡ first_of xs (first_of ys a)
first_of-append [] ys a = refl
first_of-append (x ∷ xs) ys a = refl

pub last_of-append : (xs ys : List ℕ) (b : Option ℕ) → last_of (xs ++ ys) b ≡ last_of ys (last_of xs b)
last_of-append [] ys b = refl
last_of-append (x ∷ xs) ys b = last_of-append xs ys (Some x)

pub is_on-append : (i : ℕ) (xs ys : List ℕ) → is_on i (xs ++ ys) ≡ is_on i xs || is_on i ys
is_on-append i [] ys = refl
is_on-append i (x ∷ xs) ys = ap (λ b. nat_eq i x || b) (is_on-append i xs ys) ∙ sym (or_assoc (nat_eq i x) (is_on i xs) (is_on i ys))
  where
    or_assoc : (a b c : Bool) → (a || b) || c ≡ a || (b || c)
    or_assoc true b c = refl
    or_assoc false b c = refl

module _ (links : List Links) where
  -- a write elsewhere
  pub linked_frame : (i : ℕ) (l : Links) (is : List ℕ) (b a : Option ℕ) → is_on i is ≡ false → IsLinked links b is a → IsLinked (set links i l) b is a
  linked_frame i l [] b a off h = tt
  linked_frame i l (j ∷ is) b a off h = (
    get_or-set_other links i j l alone (other i j (or_left (nat_eq i j) (is_on i is) off)) ∙ h.0,
    linked_frame i l is (Some j) a (or_right (nat_eq i j) (is_on i is) off) h.1,
  )

  pub linked_split : (xs ys : List ℕ) (b a : Option ℕ) → IsLinked links b (xs ++ ys) a → IsLinked links b xs (first_of ys a) × IsLinked links (last_of xs b) ys a
  linked_split [] ys b a h = (tt, h)
  linked_split (x ∷ xs) ys b a h =
      let rest = linked_split xs ys (Some x) a h.1 in
      ((h.0 ∙ ap (λ (o : Option ℕ). record { previous = b; next = o }) (first_of-append xs ys a), rest.0), rest.1)

  pub linked_join : (xs ys : List ℕ) (b a : Option ℕ) → IsLinked links b xs (first_of ys a) → IsLinked links (last_of xs b) ys a → IsLinked links b (xs ++ ys) a
  linked_join [] ys b a h k = k
  linked_join (x ∷ xs) ys b a h k =
      (h.0 ∙ ap (λ (o : Option ℕ). record { previous = b; next = o }) (sym (first_of-append xs ys a)), linked_join xs ys (Some x) a h.1 k)

  -- the last gets another next one
  pub linked_next : (is : List ℕ) (i : ℕ) (b a a' : Option ℕ) → last_in is i < length links → is_on i is ≡ false → IsApart is → IsLinked links b (i ∷ is) a
      → IsLinked (set links (last_in is i) (record { previous = (links_at links (last_in is i)).previous; next = a' })) b (i ∷ is) a'
  linked_next [] i b a a' lt off apart h =
      (get_or-set_same links i _ alone lt ∙ ap (λ (l : Links). record { previous = l.previous; next = a' }) h.0, tt)
  linked_next (k ∷ ks) i b a a' lt off apart h =
      let last = last_in ks k in (
        get_or-set_other links last i _ alone (λ e. last_other i ks k (or_left (nat_eq i k) (is_on i ks) off) (or_right (nat_eq i k) (is_on i ks) off) (sym e)) ∙ h.0,
        linked_next ks k (Some i) a a' lt apart.0 apart.1 h.1,
      )

  -- the first gets another previous one
  pub linked_previous : (i : ℕ) (is : List ℕ) (b b' a : Option ℕ) → i < length links → is_on i is ≡ false → IsLinked links b (i ∷ is) a
      → IsLinked (set links i (record { previous = b'; next = (links_at links i).next })) b' (i ∷ is) a
  linked_previous i is b b' a lt off h =
      (get_or-set_same links i _ alone lt ∙ ap (λ (l : Links). record { previous = b'; next = l.next }) h.0, linked_frame i _ is (Some i) a off h.1)

-- tests of numbers
pub nat_eq_refl : (i : ℕ) → nat_eq i i ≡ true
nat_eq_refl i = grind (arith, nat_tests)

pub nat_eq_sym : (i j : ℕ) → nat_eq i j ≡ false → nat_eq j i ≡ false
nat_eq_sym i j h = grind (arith, nat_tests)

pub equal : (i j : ℕ) → nat_eq i j ≡ true → i ≡ j
equal i j h = grind (arith, nat_tests)

pub by_bool : {A : Type 0} (b : Bool) → (b ≡ true → A) → (b ≡ false → A) → A
by_bool true f g = f refl
by_bool false f g = g refl

or_true : (a b : Bool) → a || b ≡ true → (a ≡ true) ⊎ (b ≡ true)
or_true true b h = inl refl
or_true false b h = inr h

pub or_false : (a b : Bool) → a ≡ false → b ≡ false → a || b ≡ false
or_false a b h k = ap (λ c. c || b) h ∙ k

pub or_is_true : (a b : Bool) → b ≡ true → a || b ≡ true
or_is_true true b h = refl
or_is_true false b h = h

-- no slot of the list
abbrev pub IsOff : Option ℕ → List ℕ → Type 0
IsOff None is = Unit {0}
IsOff (Some i) is = is_on i is ≡ false

pub length-next_set : (links : List Links) (o x : Option ℕ) → length (next_set links o x) ≡ length links
length-next_set links None x = refl
length-next_set links (Some i) x = length-set links i _

pub length-previous_set : (links : List Links) (o x : Option ℕ) → length (previous_set links o x) ≡ length links
length-previous_set links None x = refl
length-previous_set links (Some i) x = length-set links i _

pub length-unlinked : (links : List Links) (s : ℕ) → length (unlinked links s) ≡ length links
length-unlinked links s = let own = links_at links s in length-previous_set (next_set links own.previous own.next) own.next own.previous ∙ length-next_set links own.previous own.next

pub length-pushed_back : (links : List Links) (o : Option ℕ) (s : ℕ) → length (pushed_back links o s) ≡ length links
length-pushed_back links o s = length-next_set (set links s (record { previous = o; next = None })) o (Some s) ∙ length-set links s _

pub next_frame : (links : List Links) (o x : Option ℕ) (is : List ℕ) (b a : Option ℕ) → IsOff o is → IsLinked links b is a → IsLinked (next_set links o x) b is a
next_frame links None x is b a off h = h
next_frame links (Some i) x is b a off h = linked_frame links i _ is b a off h

pub previous_frame : (links : List Links) (o x : Option ℕ) (is : List ℕ) (b a : Option ℕ) → IsOff o is → IsLinked links b is a → IsLinked (previous_set links o x) b is a
previous_frame links None x is b a off h = h
previous_frame links (Some i) x is b a off h = linked_frame links i _ is b a off h

-- the slots of the two parts of a list are apart
apart_cross : (xs ys : List ℕ) → IsApart (xs ++ ys) → (j : ℕ) → is_on j xs ≡ true → is_on j ys ≡ false
apart_cross [] ys h j on = let no : false ≡ true = on in cc
apart_cross (x ∷ xs) ys h j on = from (or_true (nat_eq j x) (is_on j xs) on) (λ e. apart_cross xs ys h.1 j e)
  where
    from : (nat_eq j x ≡ true) ⊎ (is_on j xs ≡ true) → (is_on j xs ≡ true → is_on j ys ≡ false) → is_on j ys ≡ false
    from (inl e) k = subst (λ k. is_on k ys ≡ false) (sym (equal j x e)) (or_right (is_on x xs) (is_on x ys) (sym (is_on-append x xs ys) ∙ h.0))
    from (inr e) k = k e

pub on_before : (j : ℕ) (xs ys : List ℕ) → is_on j xs ≡ true → is_on j (xs ++ ys) ≡ true
on_before j xs ys on = is_on-append j xs ys ∙ ap (λ b. b || is_on j ys) on

pub on_behind : (j : ℕ) (xs ys : List ℕ) → is_on j ys ≡ true → is_on j (xs ++ ys) ≡ true
on_behind j xs ys on = is_on-append j xs ys ∙ or_is_true (is_on j xs) (is_on j ys) on

pub last_on : (x : ℕ) (xs : List ℕ) → is_on (last_in xs x) (x ∷ xs) ≡ true
last_on x [] = ap (λ b. b || false) (nat_eq_refl x)
last_on x (y ∷ ys) = or_is_true (nat_eq (last_in ys y) x) _ (last_on y ys)

pub first_on : (y : ℕ) (ys : List ℕ) → is_on y (y ∷ ys) ≡ true
first_on y ys = ap (λ b. b || is_on y ys) (nat_eq_refl y)

-- a list without one slot
pub is_on-without : (i s : ℕ) (xs ys : List ℕ) → nat_eq i s ≡ false → is_on i (xs ++ s ∷ ys) ≡ is_on i (xs ++ ys)
is_on-without i s [] ys e = ap (λ b. b || is_on i ys) e
is_on-without i s (x ∷ xs) ys e = ap (λ b. nat_eq i x || b) (is_on-without i s xs ys e)

pub off_without : (s : ℕ) (xs ys : List ℕ) → IsApart (xs ++ s ∷ ys) → is_on s (xs ++ ys) ≡ false
off_without s [] ys h = h.0
off_without s (x ∷ xs) ys h =
    or_false (nat_eq s x) (is_on s (xs ++ ys))
    (nat_eq_sym x s (or_left (nat_eq x s) (is_on x ys) (or_right (is_on x xs) (is_on x (s ∷ ys)) (sym (is_on-append x xs (s ∷ ys)) ∙ h.0))))
    (off_without s xs ys h.1)

pub apart_without : (s : ℕ) (xs ys : List ℕ) → IsApart (xs ++ s ∷ ys) → IsApart (xs ++ ys)
apart_without s [] ys h = h.1
apart_without s (x ∷ xs) ys h = (
  sym (is_on-without x s xs ys (or_left (nat_eq x s) (is_on x ys) (or_right (is_on x xs) (is_on x (s ∷ ys)) (sym (is_on-append x xs (s ∷ ys)) ∙ h.0)))) ∙ h.0,
  apart_without s xs ys h.1,
)

-- the parts of a list around one of its slots
pub record Around (s : ℕ) (is : List ℕ) : Type 0 where
  pub before : List ℕ
  pub behind : List ℕ
  pub whole : is ≡ before ++ s ∷ behind

pub around : (s : ℕ) (is : List ℕ) → is_on s is ≡ true → Around s is
around s [] on = let no : false ≡ true = on in cc
around s (i ∷ is) on = from (or_true (nat_eq s i) (is_on s is) on) (λ e. around s is e)
  where
    from : (nat_eq s i ≡ true) ⊎ (is_on s is ≡ true) → (is_on s is ≡ true → Around s is) → Around s (i ∷ is)
    from (inl e) k = record { before = []; behind = is; whole = ap (λ k. k ∷ is) (sym (equal s i e)) }
    from (inr e) k = let r = k e in record { before = i ∷ r.before; behind = r.behind; whole = ap (λ ks. i ∷ ks) r.whole }

-- the neighbours of a slot
pub own_links : (links : List Links) (s : ℕ) (xs ys : List ℕ) → IsLinked links None (xs ++ s ∷ ys) None → links_at links s ≡ record { previous = last_of xs None; next = first_of ys None }
own_links links s xs ys h = (linked_split links xs (s ∷ ys) None None h).1.0

-- a slot taken out
module _ (links : List Links) (s : ℕ) (xs ys : List ℕ) (apart : IsApart (xs ++ s ∷ ys)) (h : IsLinked links None (xs ++ s ∷ ys) None) (within : (i : ℕ) → is_on i (xs ++ s ∷ ys) ≡ true → i < length links) where
  abbrev p : Option ℕ
  p = last_of xs None

  abbrev n : Option ℕ
  n = first_of ys None

  unlinked_is : unlinked links s ≡ previous_set (next_set links p n) n p
  unlinked_is = ap (λ (l : Links). previous_set (next_set links l.previous l.next) l.next l.previous) (own_links links s xs ys h)

  front : IsLinked links None xs (Some s)
  front = (linked_split links xs (s ∷ ys) None None h).0

  rear : IsLinked links (Some s) ys None
  rear = (linked_split links xs (s ∷ ys) None None h).1.1

  -- the slot before isn't behind, and the one behind isn't before
  p_off : IsOff p ys
  p_off = off xs (λ j on. or_right (nat_eq j s) (is_on j ys) (apart_cross xs (s ∷ ys) apart j on)) where
    off : (xs : List ℕ) → ((j : ℕ) → is_on j xs ≡ true → is_on j ys ≡ false) → IsOff (last_of xs None) ys
    off [] k = tt
    off (x ∷ xs) k = subst (λ o. IsOff o ys) (sym (last_of-cons xs x)) (k (last_in xs x) (last_on x xs))

  n_off : IsOff n xs
  n_off = off ys (λ j on. by_bool (is_on j xs) (λ yes. let no : true ≡ false = sym (or_is_true (nat_eq j s) (is_on j ys) on) ∙ apart_cross xs (s ∷ ys) apart j yes in cc) (λ no. no)) where
    off : (ys : List ℕ) → ((j : ℕ) → is_on j ys ≡ true → is_on j xs ≡ false) → IsOff (first_of ys None) xs
    off [] k = tt
    off (y ∷ ys) k = k y (first_on y ys)

  -- the part before, which goes on with the part behind
  front_next : IsLinked (next_set links p n) None xs n
  front_next = go xs front (λ i on. within i (on_before i xs (s ∷ ys) on)) (apart_left xs (s ∷ ys) apart) where
    apart_left : (xs ys : List ℕ) → IsApart (xs ++ ys) → IsApart xs
    apart_left [] ys h = tt
    apart_left (x ∷ xs) ys h = (or_left (is_on x xs) (is_on x ys) (sym (is_on-append x xs ys) ∙ h.0), apart_left xs ys h.1)

    go : (xs : List ℕ) → IsLinked links None xs (Some s) → ((i : ℕ) → is_on i xs ≡ true → i < length links) → IsApart xs → IsLinked (next_set links (last_of xs None) n) None xs n
    go [] h w a = tt
    go (x ∷ xs) h w a = subst (λ o. IsLinked (next_set links o n) None (x ∷ xs) n) (sym (last_of-cons xs x)) (linked_next links xs x None (Some s) n (w _ (last_on x xs)) a.0 a.1 h)

  rear_next : IsLinked (next_set links p n) (Some s) ys None
  rear_next = next_frame links p n ys (Some s) None p_off rear

  front_both : IsLinked (previous_set (next_set links p n) n p) None xs n
  front_both = previous_frame (next_set links p n) n p xs None n n_off front_next

  rear_both : IsLinked (previous_set (next_set links p n) n p) p ys None
  rear_both = go ys rear_next (λ i on. subst (λ k. i < k) (sym (length-next_set links p n)) (within i (on_behind i xs (s ∷ ys) (or_is_true (nat_eq i s) (is_on i ys) on)))) (apart_right xs (s ∷ ys) apart).1 where
    apart_right : (xs ys : List ℕ) → IsApart (xs ++ ys) → IsApart ys
    apart_right [] ys h = h
    apart_right (x ∷ xs) ys h = apart_right xs ys h.1

    go : (zs : List ℕ) → IsLinked (next_set links p n) (Some s) zs None → ((i : ℕ) → is_on i zs ≡ true → i < length (next_set links p n)) → IsApart zs → IsLinked (previous_set (next_set links p n) (first_of zs None) p) p zs None
    go [] h w a = tt
    go (y ∷ zs) h w a = linked_previous (next_set links p n) y zs (Some s) p None (w y (first_on y zs)) a.0 h

  pub unlinked_linked : IsLinked (unlinked links s) None (xs ++ ys) None
  unlinked_linked = subst (λ ls. IsLinked ls None (xs ++ ys) None) (sym unlinked_is) (linked_join (previous_set (next_set links p n) n p) xs ys None None front_both rear_both)

  -- a list that the slot's neighbours aren't on stays
  pub unlinked_frame : (js : List ℕ) → ((j : ℕ) → is_on j (xs ++ s ∷ ys) ≡ true → is_on j js ≡ false) → IsLinked links None js None → IsLinked (unlinked links s) None js None
  unlinked_frame js apart_from k =
      subst (λ ls. IsLinked ls None js None) (sym unlinked_is)
      (previous_frame (next_set links p n) n p js None None (n_apart ys (λ j on. apart_from j (on_behind j xs (s ∷ ys) (or_is_true (nat_eq j s) (is_on j ys) on))))
      (next_frame links p n js None None (p_apart xs (λ j on. apart_from j (on_before j xs (s ∷ ys) on))) k))
    where
      p_apart : (xs : List ℕ) → ((j : ℕ) → is_on j xs ≡ true → is_on j js ≡ false) → IsOff (last_of xs None) js
      p_apart [] k = tt
      p_apart (x ∷ xs) k = subst (λ o. IsOff o js) (sym (last_of-cons xs x)) (k (last_in xs x) (last_on x xs))

      n_apart : (ys : List ℕ) → ((j : ℕ) → is_on j ys ≡ true → is_on j js ≡ false) → IsOff (first_of ys None) js
      n_apart [] k = tt
      n_apart (y ∷ ys) k = k y (first_on y ys)

-- a list with one more slot behind it
pub apart_push : (s : ℕ) (is : List ℕ) → is_on s is ≡ false → IsApart is → IsApart (is ++ s ∷ [])
apart_push s [] off h = (refl, tt)
apart_push s (i ∷ is) off h = (
  is_on-append i is (s ∷ []) ∙ or_false (is_on i is) (nat_eq i s || false) h.0 (or_false (nat_eq i s) false (nat_eq_sym s i (or_left (nat_eq s i) (is_on s is) off)) refl),
  apart_push s is (or_right (nat_eq s i) (is_on s is) off) h.1,
)

pub is_on-push : (i s : ℕ) (is : List ℕ) → nat_eq i s ≡ false → is_on i (is ++ s ∷ []) ≡ is_on i is
is_on-push i s is ne = is_on-append i is (s ∷ []) ∙ ap (λ b. is_on i is || (b || false)) ne ∙ tidy (is_on i is)
  where
    tidy : (b : Bool) → b || false ≡ b
    tidy true = refl
    tidy false = refl
