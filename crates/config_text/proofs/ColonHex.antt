-- The texts of IPv6 addresses are those of std's grammar that have no dot.
use Rattle.std.proofs.Common.{◌≡◌, ℕ, zero, suc, ◌+◌, ◌-◌, ◌/◌, ◌%◌, ◌^◌, ◌<◌, ◌≤◌, ◌⊎◌, Bool, true, false, ◌&&◌, nat_le, nat_lt, eqb, List, [], ◌∷◌, ◌++◌, length, replicate, Option, Some, None, Result, Ok, Err, option_map, option_and_then, codes, refl, sym, ap, ap₂, ◌∙◌, subst, arith, inl, inr, lit≤, le-leb, lt-ltb, append_assoc, append-nil}
use Rattle.std.specs.Prelude.{◌==◌}
use Rattle.std.specs.List.{list_any, flat_map}
use Rattle.std.specs.Int.{w16, to_be_bytes}
use Rattle.std.proofs.lemmas.Bool.{cases_Bool, cases_lt, leb-true, ltb-true, eqb-true, eq-eqb, ne_eqb, cond-true, cond-false, and_parts, and_from, and_left, and_right, true≢false}
use Rattle.std.proofs.lemmas.Bool.Decides.{nat_tests}
use Rattle.std.specs.Char.{digit_value}
use Rattle.std.specs.Str.Parse.{AllDigits}
use Rattle.std.specs.Net.Addr.{ipv6_segments, ipv6_octets, octets_of}
use Rattle.std.specs.Net.Grammar.{IsDotted, IsGroup, IsGroupsAfter, IsGroups, IsElided, IsColonHex, IsIpv6Text, Parses}
use Rattle.std.specs.Result.{result_ok}
use Rattle.std.specs.declared.net.ipv6_addr.Ipv6Addr.{Ipv6Addr}
use Rattle.config_text.specs.Address.{is_within, hex_digit, hex_group, cut, parts_in, joined, exactly, groups, halves, side, filled, ip6_groups, ip6_of}
use Rattle.config_text.proofs.Steps.{same_Some, cond_kept, map_some, then_some, kept_some}
use Rattle.config_text.proofs.Dotted.{number_sound, number_complete, cut_digits, cut_no_digits, cut_sound, dotted_splits}

-- ---- one group

hex_complete : (c : ℕ) → digit_value c < 16 → hex_digit c ≡ Some (digit_value c)
hex_complete c h = grind (arith, nat_tests)

hex_other : (c : ℕ) → 16 ≤ digit_value c → hex_digit c ≡ None
hex_other c h = grind (arith, nat_tests)

hex_sound : (c d : ℕ) → hex_digit c ≡ Some d → (digit_value c < 16) × (digit_value c ≡ d)
hex_sound c d e = elim (cases_lt (digit_value c) 16) [
  | inl small ↦ (small, same_Some (digit_value c) d (sym (hex_complete c small) ∙ e))
  | inr large ↦ let none : None ≡ Some d = sym (hex_other c large) ∙ e in absurd cc
]

group_sound : (t : List ℕ) (n : ℕ) → hex_group t ≡ Some n → IsGroup t n
group_sound t n e =
    let c = cond_kept (is_within 1 4 (length t)) _ n e in
    let p = and_parts (nat_le 1 (length t)) (nat_le (length t) 4) c.0 in
    let d = number_sound 16 hex_digit hex_sound hex_complete 0 t n c.1 in
    (((leb-true 1 (length t) p.0, d.0), d.1), leb-true (length t) 4 p.1)

group_complete : (t : List ℕ) (n : ℕ) → IsGroup t n → hex_group t ≡ Some n
group_complete t n h =
    let within : is_within 1 4 (length t) ≡ true = and_from _ _ (le-leb 1 (length t) h.0.0.0) (le-leb (length t) 4 h.1) in
    cond-true _ _ _ within ∙ number_complete 16 hex_digit hex_sound hex_complete 0 t h.0.0.1 ∙ ap (λ (d : ℕ). Some d) h.0.1

-- ---- groups with colons between them

not_colon : (c : ℕ) → digit_value c < 16 → eqb c 58 ≡ false
not_colon c h = ne_eqb c 58 (λ e. let big : digit_value 58 < 16 = rw e at h in omega arith)

-- one group, or one with more behind a colon
parts_sound : (ipv4 : Bool) (more : List ℕ → Option (List ℕ)) → ((t xs : List ℕ) → more t ≡ Some xs → IsGroupsAfter ipv4 (codes ":") (58 ∷ t) xs) → (lead t xs : List ℕ) (o : Option (List ℕ × List ℕ)) → cut 58 t ≡ o → parts_in hex_group more t o ≡ Some xs → IsGroupsAfter ipv4 lead (lead ++ t) xs
parts_sound ipv4 more sound lead t xs None is e =
    let a = map_some (λ x. x ∷ []) (hex_group t) xs e in
    let text : lead ++ t ≡ lead ++ t ++ [] = simp append-nil in
    subst (IsGroupsAfter ipv4 lead (lead ++ t)) a.2 (inl (t, [], text, group_sound t a.0 a.1, refl))
parts_sound ipv4 more sound lead t xs (Some h) is e =
    let a = then_some (λ x. option_map (λ ys. x ∷ ys) (more h.1)) (hex_group h.0) xs e in
    let b = map_some (λ ys. a.0 ∷ ys) (more h.1) xs a.2 in
    let text : lead ++ t ≡ lead ++ h.0 ++ (58 ∷ h.1) = ap (λ (x : List ℕ). lead ++ x) (cut_sound 58 t h is) ∙ simp append_assoc in
    subst (IsGroupsAfter ipv4 lead (lead ++ t)) b.2 (inl (h.0, 58 ∷ h.1, text, group_sound h.0 a.0 a.1, sound h.1 b.0 b.1))

groups_sound : (ipv4 : Bool) (n : ℕ) (lead t xs : List ℕ) → joined hex_group 58 n t ≡ Some xs → IsGroupsAfter ipv4 lead (lead ++ t) xs
unfolding joined
groups_sound ipv4 zero lead t xs e = absurd cc
groups_sound ipv4 (suc n) lead t xs e = parts_sound ipv4 (joined hex_group 58 n) (groups_sound ipv4 n (codes ":")) lead t xs (cut 58 t) refl e

side_sound : (ipv4 : Bool) (t xs : List ℕ) → side t ≡ Some xs → IsGroups ipv4 t xs
side_sound ipv4 [] xs e = subst (IsGroups ipv4 []) (same_Some [] xs e) refl
side_sound ipv4 (c ∷ cs) xs e = groups_sound ipv4 8 [] (c ∷ cs) xs e

-- ---- no dot

abbrev NoDot : List ℕ → Type 0
NoDot [] = Unit {0}
NoDot (c ∷ cs) = (eqb c 46 ≡ false) × NoDot cs

no_dot_behind : (xs ys : List ℕ) → NoDot (xs ++ ys) → NoDot ys
no_dot_behind [] ys h = h
no_dot_behind (x ∷ xs) ys h = no_dot_behind xs ys h.1

no_dot_both : (xs ys : List ℕ) → NoDot xs → NoDot ys → NoDot (xs ++ ys)
no_dot_both [] ys h k = k
no_dot_both (x ∷ xs) ys h k = (h.0, no_dot_both xs ys h.1 k)

no_dot_digits : (xs : List ℕ) → AllDigits 16 xs → NoDot xs
no_dot_digits [] h = tt
no_dot_digits (c ∷ cs) h = (ne_eqb c 46 (λ e. let big : digit_value 46 < 16 = rw e at h.0 in omega arith), no_dot_digits cs h.1)

no_dot_front : (xs ys : List ℕ) → NoDot (xs ++ ys) → NoDot xs
no_dot_front [] ys h = tt
no_dot_front (x ∷ xs) ys h = (h.0, no_dot_front xs ys h.1)

no_dot_any : (xs : List ℕ) → NoDot xs → list_any (λ c. eqb c 46) xs ≡ false
no_dot_any [] h = refl
no_dot_any (c ∷ cs) h = rw (h.0, no_dot_any cs h.1) refl

pub no_dot : (xs : List ℕ) → list_any (λ c. eqb c 46) xs ≡ false → NoDot xs
no_dot [] h = tt
no_dot (c ∷ cs) h = elim (cases_Bool (eqb c 46)) [
  | inl here ↦ let bad : list_any (λ x. eqb x 46) (c ∷ cs) ≡ true = rw here refl in absurd (true≢false (sym bad ∙ h))
  | inr other ↦ (other, no_dot cs (rw other at h))
]

not_dotted : (t x : List ℕ) → IsDotted t x → NoDot t → ⊥
not_dotted t x h none =
    let s = dotted_splits t x h in
    let k = no_dot_behind s.0 (46 ∷ s.1) (subst NoDot s.2 none) in
    true≢false k.0

pub groups_no_dot : (lead text xs : List ℕ) → NoDot lead → IsGroupsAfter false lead text xs → NoDot text
groups_no_dot lead text [] h g = subst NoDot (sym g) tt
groups_no_dot lead text (x ∷ xs) h (inl (group, rest, is, one, more)) =
    subst NoDot (sym (is ∙ simp append_assoc)) (no_dot_both lead (group ++ rest) h (no_dot_both group rest (no_dot_digits group one.0.0.1) (groups_no_dot (codes ":") rest xs (refl, tt) more)))
groups_no_dot lead text (x ∷ xs) h (inr (last, octets, allowed, is, dotted, segs)) = absurd (true≢false (sym allowed))

-- ---- groups that are there are read

-- what groups behind a lead are the text of
record AreRead (n : ℕ) (lead text xs : List ℕ) : Type 0 where
  t : List ℕ
  text_is : text ≡ lead ++ t
  read : joined hex_group 58 n t ≡ Some xs

groups_complete : (ipv4 : Bool) (n : ℕ) (lead text : List ℕ) (x : ℕ) (xs : List ℕ) → IsGroupsAfter ipv4 lead text (x ∷ xs) → NoDot text → length (x ∷ xs) ≤ n → AreRead n lead text (x ∷ xs)
unfolding joined
groups_complete ipv4 zero lead text x xs g none most = absurd (omega arith)
groups_complete ipv4 (suc n) lead text x xs (inr (last, octets, allowed, is, dotted, segs)) none most = absurd (not_dotted last octets dotted (no_dot_behind lead last (subst NoDot is none)))
groups_complete ipv4 (suc n) lead text x [] (inl (group, rest, is, one, more)) none most =
    record {
      t = group;
      text_is = is ∙ ap (λ (r : List ℕ). lead ++ group ++ r) more ∙ simp append-nil;
      read = ap (parts_in hex_group (joined hex_group 58 n) group) (cut_no_digits 16 58 not_colon group one.0.0.1) ∙ ap (option_map (λ y. y ∷ [])) (group_complete group x one);
    }
groups_complete ipv4 (suc n) lead text x (y ∷ ys) (inl (group, rest, is, one, more)) none most =
    let split : text ≡ lead ++ (group ++ rest) = is ∙ simp append_assoc in
    let behind_none = no_dot_behind group rest (no_dot_behind lead (group ++ rest) (subst NoDot split none)) in
    let k = groups_complete ipv4 n (codes ":") rest y ys more behind_none (omega arith) in
    record {
      t = group ++ 58 ∷ k.t;
      text_is = split ∙ ap (λ (r : List ℕ). lead ++ (group ++ r)) k.text_is;
      read = ap (parts_in hex_group (joined hex_group 58 n) (group ++ 58 ∷ k.t)) (cut_digits 16 58 not_colon group k.t one.0.0.1)
          ∙ ap (option_and_then (λ z. option_map (λ zs. z ∷ zs) (joined hex_group 58 n k.t))) (group_complete group x one)
          ∙ ap (option_map (λ zs. x ∷ zs)) k.read;
    }

none_read : (n : ℕ) (x : ℕ) (xs : List ℕ) → joined hex_group 58 n [] ≡ Some (x ∷ xs) → ⊥
unfolding joined
none_read zero x xs e = absurd cc
none_read (suc n) x xs e = absurd cc

side_read : (t : List ℕ) (x : ℕ) (xs : List ℕ) → joined hex_group 58 8 t ≡ Some (x ∷ xs) → side t ≡ Some (x ∷ xs)
side_read [] x xs e = absurd (none_read 8 x xs e)
side_read (c ∷ cs) x xs e = e

side_complete : (ipv4 : Bool) (t xs : List ℕ) → IsGroups ipv4 t xs → NoDot t → length xs ≤ 8 → side t ≡ Some xs
side_complete ipv4 t [] g none most = ap side g
side_complete ipv4 t (x ∷ xs) g none most =
    let k = groups_complete ipv4 8 [] t x xs g none most in
    ap side k.text_is ∙ side_read k.t x xs k.read

-- ---- two colons

behind : List ℕ → Option (List ℕ × List ℕ) → Option (List ℕ × List ℕ)
behind front o = option_map (λ h. (front ++ h.0, h.1)) o

behind_none : (o : Option (List ℕ × List ℕ)) → o ≡ behind [] o
unfolding behind
behind_none None = refl
behind_none (Some h) = refl

behind_both : (xs ys : List ℕ) (o : Option (List ℕ × List ℕ)) → behind xs (behind ys o) ≡ behind (xs ++ ys) o
unfolding behind
behind_both xs ys None = refl
behind_both xs ys (Some h) = ap (λ (x : List ℕ). Some (x, h.1)) (sym (append_assoc xs ys h.0))

halves_other : (c : ℕ) (cs : List ℕ) → eqb c 58 ≡ false → halves (c ∷ cs) ≡ behind (c ∷ []) (halves cs)
unfolding behind
halves_other c [] h = refl
halves_other c (d ∷ cs) h = cond-false _ _ _ (and_left (eqb c 58) (eqb d 58) h)

halves_colon : (d : ℕ) (cs : List ℕ) → eqb d 58 ≡ false → halves (58 ∷ d ∷ cs) ≡ behind (58 ∷ []) (halves (d ∷ cs))
unfolding behind
halves_colon d cs h = cond-false _ _ _ (and_right (eqb 58 58) (eqb d 58) h)

halves_digits : (xs ys : List ℕ) → AllDigits 16 xs → halves (xs ++ ys) ≡ behind xs (halves ys)
halves_digits [] ys h = behind_none (halves ys)
halves_digits (c ∷ cs) ys h = halves_other c (cs ++ ys) (not_colon c h.0) ∙ ap (behind (c ∷ [])) (halves_digits cs ys h.1) ∙ behind_both (c ∷ []) cs (halves ys)

halves_group : (xs ys : List ℕ) → 0 < length xs → AllDigits 16 xs → halves (58 ∷ xs ++ ys) ≡ behind (58 ∷ xs) (halves ys)
halves_group [] ys some h = absurd (omega arith)
halves_group (c ∷ cs) ys some h = halves_colon c (cs ++ ys) (not_colon c h.0) ∙ ap (behind (58 ∷ [])) (halves_digits (c ∷ cs) ys h) ∙ behind_both (58 ∷ []) (c ∷ cs) (halves ys)

halves_lead : (lead xs ys : List ℕ) → (lead ≡ []) ⊎ (lead ≡ codes ":") → 0 < length xs → AllDigits 16 xs → halves (lead ++ (xs ++ ys)) ≡ behind (lead ++ xs) (halves ys)
halves_lead lead xs ys (inl e) some h = rw e (halves_digits xs ys h)
halves_lead lead xs ys (inr e) some h = rw e (halves_group xs ys some h)

-- groups have no two colons
halves_groups : (ipv4 : Bool) (lead text xs suffix : List ℕ) → (lead ≡ []) ⊎ (lead ≡ codes ":") → IsGroupsAfter ipv4 lead text xs → NoDot text → halves (text ++ suffix) ≡ behind text (halves suffix)
halves_groups ipv4 lead text [] suffix l g none = rw g (behind_none (halves suffix))
halves_groups ipv4 lead text (x ∷ xs) suffix l (inr (last, octets, allowed, is, dotted, segs)) none = absurd (not_dotted last octets dotted (no_dot_behind lead last (subst NoDot is none)))
halves_groups ipv4 lead text (x ∷ xs) suffix l (inl (group, rest, is, one, more)) none =
    let split : text ≡ lead ++ (group ++ rest) = is ∙ simp append_assoc in
    let rest_none = no_dot_behind group rest (no_dot_behind lead (group ++ rest) (subst NoDot split none)) in
    let later = halves_groups ipv4 (codes ":") rest xs suffix (inr refl) more rest_none in
    let whole : text ++ suffix ≡ lead ++ (group ++ (rest ++ suffix)) = ap (λ (t : List ℕ). t ++ suffix) split ∙ simp append_assoc in
    let front : (lead ++ group) ++ rest ≡ text = (simp append_assoc) ∙ sym split in
    ap halves whole ∙ halves_lead lead group (rest ++ suffix) l one.0.0.0 one.0.0.1 ∙ ap (behind (lead ++ group)) later ∙ behind_both (lead ++ group) rest (halves suffix) ∙ ap (λ (t : List ℕ). behind t (halves suffix)) front

halves_sound : (t : List ℕ) (h : List ℕ × List ℕ) → halves t ≡ Some h → t ≡ h.0 ++ 58 ∷ 58 ∷ h.1
halves_sound [] h e = absurd cc
halves_sound (c ∷ []) h e = absurd cc
halves_sound (c ∷ d ∷ cs) h e = elim (cases_Bool (eqb c 58 && eqb d 58)) [
  | inl both ↦
      let p = and_parts (eqb c 58) (eqb d 58) both in
      let same : ([], cs) ≡ h = same_Some _ h (sym (cond-true _ _ _ both) ∙ e) in
      ap₂ (λ (x y : ℕ). x ∷ y ∷ cs) (eqb-true c 58 p.0) (eqb-true d 58 p.1) ∙ ap (λ (k : List ℕ × List ℕ). k.0 ++ 58 ∷ 58 ∷ k.1) same
  | inr other ↦
      let k = map_some (λ (k : List ℕ × List ℕ). (c ∷ k.0, k.1)) (halves (d ∷ cs)) h (sym (cond-false _ _ _ other) ∙ e) in
      ap (λ (x : List ℕ). c ∷ x) (halves_sound (d ∷ cs) k.0 k.1) ∙ ap (λ (k : List ℕ × List ℕ). k.0 ++ 58 ∷ 58 ∷ k.1) k.2
]

-- ---- addresses

-- both sides of two colons
record AreSides (t segments : List ℕ) (h : List ℕ × List ℕ) : Type 0 where
  front : List ℕ
  back : List ℕ
  front_read : side h.0 ≡ Some front
  back_read : side h.1 ≡ Some back
  room : length front + length back < 8
  value : front ++ replicate (8 - (length front + length back)) 0 ++ back ≡ segments

sides_of : (t segments : List ℕ) (h : List ℕ × List ℕ) → ip6_groups t (Some h) ≡ Some segments → AreSides t segments h
sides_of t segments h e =
    let a = then_some (λ front. option_and_then (filled front) (side h.1)) (side h.0) segments e in
    let b = then_some (filled a.0) (side h.1) segments a.2 in
    let c = cond_kept (nat_lt (length a.0 + length b.0) 8) _ segments b.2 in
    record {
      front = a.0;
      back = b.0;
      front_read = a.1;
      back_read = b.1;
      room = ltb-true (length a.0 + length b.0) 8 c.0;
      value = same_Some _ segments c.1;
    }

minus_both : (a b : ℕ) → a + b < 8 → 8 - a - b ≡ 8 - (a + b)
minus_both a b h = omega arith

groups_are : (t : List ℕ) (o : Option (List ℕ × List ℕ)) (segments : List ℕ) → halves t ≡ o → ip6_groups t o ≡ Some segments → IsColonHex t segments
groups_are t None segments is e =
    let k = kept_some (λ xs. length xs == 8) (groups t) segments e in
    inl (groups_sound true 8 [] t segments k.0, eqb-true (length segments) 8 k.1)
groups_are t (Some h) segments is e =
    let k = sides_of t segments h e in
    inr (record {
      head_text = h.0;
      tail_text = h.1;
      head = k.front;
      tail = k.back;
      spelled = halves_sound t h is ∙ simp append_assoc;
      head_groups = side_sound false h.0 k.front k.front_read;
      tail_groups = side_sound true h.1 k.back k.back_read;
      room = k.room;
      value = sym k.value ∙ ap (λ (n : ℕ). k.front ++ replicate n 0 ++ k.back) (sym (minus_both (length k.front) (length k.back) k.room));
    })

groups_have_no_dot : (t : List ℕ) (o : Option (List ℕ × List ℕ)) (segments : List ℕ) → halves t ≡ o → ip6_groups t o ≡ Some segments → NoDot t
groups_have_no_dot t None segments is e =
    groups_no_dot [] t segments tt (groups_sound false 8 [] t segments (kept_some (λ xs. length xs == 8) (groups t) segments e).0)
groups_have_no_dot t (Some h) segments is e =
    let k = sides_of t segments h e in
    let front = groups_no_dot [] h.0 k.front tt (side_sound false h.0 k.front k.front_read) in
    let back = groups_no_dot [] h.1 k.back tt (side_sound false h.1 k.back k.back_read) in
    subst NoDot (sym (halves_sound t h is)) (no_dot_both h.0 (58 ∷ 58 ∷ h.1) front (refl, (refl, back)))

all_read : (t segments : List ℕ) → IsGroups true t segments → length segments ≡ 8 → NoDot t → ip6_groups t (halves t) ≡ Some segments
unfolding behind
all_read t [] g len none = absurd (omega arith)
all_read t (x ∷ xs) g len none =
    let k = groups_complete true 8 [] t x xs g none (omega arith) in
    let no_halves : halves t ≡ None = ap halves (sym (append-nil t)) ∙ halves_groups true [] t (x ∷ xs) [] (inl refl) g none in
    let read : groups t ≡ Some (x ∷ xs) = ap groups k.text_is ∙ k.read in
    ap (ip6_groups t) no_halves ∙ ap (exactly 8) read ∙ cond-true _ _ _ (eq-eqb (length (x ∷ xs)) 8 len)

elided_read : (t segments : List ℕ) → IsElided t segments → NoDot t → ip6_groups t (halves t) ≡ Some segments
unfolding behind
elided_read t segments h none =
    let split : t ≡ h.head_text ++ 58 ∷ 58 ∷ h.tail_text = h.spelled ∙ simp append_assoc in
    let parts = subst NoDot split none in
    let tail_none = (no_dot_behind h.head_text (58 ∷ 58 ∷ h.tail_text) parts).1.1 in
    let head_none = no_dot_front h.head_text (58 ∷ 58 ∷ h.tail_text) parts in
    let cut_there : halves t ≡ Some (h.head_text ++ [], h.tail_text) = ap halves split ∙ halves_groups false [] h.head_text h.head (58 ∷ 58 ∷ h.tail_text) (inl refl) h.head_groups head_none in
    let halves_are : halves t ≡ Some (h.head_text, h.tail_text) = cut_there ∙ ap (λ (x : List ℕ). Some (x, h.tail_text)) (append-nil h.head_text) in
    let front = side_complete false h.head_text h.head h.head_groups head_none (omega (arith, h.room)) in
    let back = side_complete true h.tail_text h.tail h.tail_groups tail_none (omega (arith, h.room)) in
    ap (ip6_groups t) halves_are
    ∙ ap (option_and_then (λ f. option_and_then (filled f) (side h.tail_text))) front
    ∙ ap (option_and_then (filled h.head)) back
    ∙ cond-true _ _ _ (lt-ltb (length h.head + length h.tail) 8 h.room)
    ∙ ap (λ (n : ℕ). Some (h.head ++ replicate n 0 ++ h.tail)) (sym (minus_both (length h.head) (length h.tail) h.room))
    ∙ ap (λ (xs : List ℕ). Some xs) (sym h.value)

ip6_complete : (t segments : List ℕ) → IsColonHex t segments → NoDot t → ip6_groups t (halves t) ≡ Some segments
ip6_complete t segments (inl h) none = all_read t segments h.0 h.1 none
ip6_complete t segments (inr h) none = elided_read t segments h none

-- each of 16 bits
abbrev AreSegments : List ℕ → Type 0
AreSegments [] = Unit {0}
AreSegments (x ∷ xs) = (x < 65536) × AreSegments xs

segments_both : (xs ys : List ℕ) → AreSegments xs → AreSegments ys → AreSegments (xs ++ ys)
segments_both [] ys h k = k
segments_both (x ∷ xs) ys h k = (h.0, segments_both xs ys h.1 k)

segments_zero : (n : ℕ) → AreSegments (replicate n 0)
segments_zero zero = tt
segments_zero (suc n) = (lit≤ tt, segments_zero n)

group_below : (t : List ℕ) (n : ℕ) → IsGroup t n → n < 65536
group_below [] n h = absurd (omega (arith, h.0.0.0))
group_below (a ∷ []) n h = omega (arith, h.0.0.1.0, h.0.1)
group_below (a ∷ b ∷ []) n h = omega (arith, h.0.0.1.0, h.0.0.1.1.0, h.0.1)
group_below (a ∷ b ∷ c ∷ []) n h = omega (arith, h.0.0.1.0, h.0.0.1.1.0, h.0.0.1.1.1.0, h.0.1)
group_below (a ∷ b ∷ c ∷ d ∷ []) n h = omega (arith, h.0.0.1.0, h.0.0.1.1.0, h.0.0.1.1.1.0, h.0.0.1.1.1.1.0, h.0.1)
group_below (a ∷ b ∷ c ∷ d ∷ e ∷ t) n h = absurd (omega (arith, h.1))

groups_below : (ipv4 : Bool) (lead text xs : List ℕ) → IsGroupsAfter ipv4 lead text xs → NoDot text → AreSegments xs
groups_below ipv4 lead text [] g none = tt
groups_below ipv4 lead text (x ∷ xs) (inr (last, octets, allowed, is, dotted, segs)) none = absurd (not_dotted last octets dotted (no_dot_behind lead last (subst NoDot is none)))
groups_below ipv4 lead text (x ∷ xs) (inl (group, rest, is, one, more)) none =
    let split : text ≡ lead ++ (group ++ rest) = is ∙ simp append_assoc in
    (group_below group x one, groups_below ipv4 (codes ":") rest xs more (no_dot_behind group rest (no_dot_behind lead (group ++ rest) (subst NoDot split none))))

segments_below : (t segments : List ℕ) → IsColonHex t segments → NoDot t → AreSegments segments
segments_below t segments (inl h) none = groups_below true [] t segments h.0 none
segments_below t segments (inr h) none =
    let split : t ≡ h.head_text ++ 58 ∷ 58 ∷ h.tail_text = h.spelled ∙ simp append_assoc in
    let parts = subst NoDot split none in
    let tail = groups_below true [] h.tail_text h.tail h.tail_groups (no_dot_behind h.head_text (58 ∷ 58 ∷ h.tail_text) parts).1.1 in
    let head = groups_below false [] h.head_text h.head h.head_groups (no_dot_front h.head_text (58 ∷ 58 ∷ h.tail_text) parts) in
    let zeros = replicate (8 - length h.head - length h.tail) 0 in
    let value : h.head ++ (zeros ++ h.tail) ≡ segments = (simp append_assoc) ∙ sym h.value in
    subst AreSegments value (segments_both h.head (zeros ++ h.tail) head (segments_both zeros h.tail (segments_zero (8 - length h.head - length h.tail)) tail))

octets_are : (xs : List ℕ) → AreSegments xs → octets_of xs ≡ flat_map (to_be_bytes w16) xs
octets_are [] h = refl
octets_are (x ∷ xs) h =
    let high : x / 256 ≡ x / 256 ^ 1 % 256 = omega (arith, h.0) in
    ap₂ (λ (y : ℕ) (ys : List ℕ). y ∷ (x % 256) ∷ ys) high (octets_are xs h.1)

-- what std's parser answers of a text without a dot is what the text writes
pub ip6_parsed : {E : Type 0} (t : List ℕ) (r : Result Ipv6Addr E) → NoDot t → Parses IsIpv6Text t r → option_map ipv6_octets (result_ok r) ≡ ip6_of t
unfolding ip6_of
ip6_parsed t (Ok a) none h =
    let segments = ipv6_segments a in
    ap (λ (xs : List ℕ). Some xs) (octets_are segments (segments_below t segments h none)) ∙ ap (option_map (flat_map (to_be_bytes w16))) (sym (ip6_complete t segments h none))
ip6_parsed t (Err e) none h = by (ip6_groups t (halves t)) refl
  where
    by : (o : Option (List ℕ)) → ip6_groups t (halves t) ≡ o → None ≡ option_map (flat_map (to_be_bytes w16)) (ip6_groups t (halves t))
    by None is = ap (option_map (flat_map (to_be_bytes w16))) (sym is)
    by (Some xs) is = absurd (h (record { segments = xs }) (groups_are t (halves t) xs refl is))

-- a text with a dot writes none
pub ip6_dot : (t : List ℕ) → list_any (λ c. eqb c 46) t ≡ true → ip6_of t ≡ None
unfolding ip6_of
ip6_dot t some = by (ip6_groups t (halves t)) refl
  where
    by : (o : Option (List ℕ)) → ip6_groups t (halves t) ≡ o → option_map (flat_map (to_be_bytes w16)) (ip6_groups t (halves t)) ≡ None
    by None is = ap (option_map (flat_map (to_be_bytes w16))) is
    by (Some xs) is = absurd (true≢false (sym some ∙ no_dot_any t (groups_have_no_dot t (halves t) xs refl is)))
