-- How a thread changes where a slot leaves it or joins it, and an entry changes.
use Rattle.std.proofs.Common.{inl, inr, ◌⊎◌, ◌≡◌, ℕ, ◌+◌, ◌<◌, ◌≤◌, Bool, true, false, cond, List, [], ◌∷◌, ◌++◌, length, set, Option, Some, None, IsSome, is_none, nat_eq, refl, sym, ap, ◌∙◌, subst, arith, length-append}
use Rattle.std.proofs.lemmas.List.{get_or-set_same, get_or-set_other, length-set, get_or_past, set-set}
use Rattle.std.proofs.lemmas.List.Sums.{sum_by-set}
use Rattle.std.proofs.lemmas.Bool.{cases_lt}
use Rattle.std.specs.List.{sum_by}
use Rattle.shared_tables.specs.declared.links.Links.{Links}
use Rattle.shared_tables.specs.Pool.{Held}
use Rattle.shared_tables.specs.Pool.{links_at, entry_at, alone}
use Rattle.shared_tables.specs.Shared.{line_key}
use Rattle.shared_tables.specs.LinkSteps.{IsHeld, next_set, unlinked, pushed_back, ends_without, ends_with}
use Rattle.shared_tables.specs.Line.{first_of, last_of, IsLinked, is_on, IsApart, weight, IsThread}
use Rattle.shared_tables.proofs.OnEntries.Linked.{by_bool, equal, IsOff, own_links, unlinked_linked, off_without, apart_without, is_on-without, linked_frame, linked_join, linked_next, next_frame, last_in, last_of-cons, last_of-append, last_on, first_on, on_behind, apart_push, is_on-push, nat_eq_refl}

-- the entries after one changed
entry_same : (es : List (Option Held)) (s : ℕ) (e : Option Held) → s < length es → entry_at (set es s e) s ≡ e
entry_same es s e lt = get_or-set_same es s e None lt

entry_other : (es : List (Option Held)) (s i : ℕ) (e : Option Held) → nat_eq i s ≡ false → entry_at (set es s e) i ≡ entry_at es i
entry_other es s i e apart = get_or-set_other es s i e None (λ q. let no : nat_eq i s ≡ true = subst (λ k. nat_eq i k ≡ true) q (nat_eq_refl i) in let bad : true ≡ false = sym no ∙ apart in cc)

module _ (key : Option Held → Bool) (none : key None ≡ false) where
  -- a slot whose entry passes is one of the pool
  pub in_entries : (es : List (Option Held)) (i : ℕ) → key (entry_at es i) ≡ true → i < length es
  in_entries es i h = from (cases_lt i (length es)) where
    from : (i < length es) ⊎ (length es ≤ i) → i < length es
    from (inl lt) = lt
    from (inr le) = let bad : true ≡ false = sym h ∙ ap key (get_or_past es i None le) ∙ none in cc

  weight_true : (e : Option Held) → key e ≡ true → weight key e ≡ 1
  weight_true e h = ap (λ b. cond b 1 0) h

  weight_false : (e : Option Held) → key e ≡ false → weight key e ≡ 0
  weight_false e h = ap (λ b. cond b 1 0) h

  module _ (links : List Links) (es : List (Option Held)) (f l : Option ℕ) (s : ℕ) (e : Option Held) (same : length links ≡ length es) (lt : s < length es) where
    -- how the number of those that pass changes
    counted : sum_by (weight key) (set es s e) + weight key (entry_at es s) ≡ sum_by (weight key) es + weight key e
    counted = sum_by-set (weight key) es s e None lt

    -- a slot leaves
    pub thread_without : (xs ys : List ℕ) → IsThread links es key f l (xs ++ s ∷ ys) → key e ≡ false
        → IsThread (unlinked links s) (set es s e) key (ends_without (record { first = f; last = l }) (links_at links s)).first (ends_without (record { first = f; last = l }) (links_at links s)).last (xs ++ ys)
    thread_without xs ys h off =
        let own = own_links links s xs ys h.linked in
        let was : key (entry_at es s) ≡ true = sym (h.members s) ∙ on_behind s xs (s ∷ ys) (first_on s ys) in
        record {
          linked = unlinked_linked links s xs ys h.apart h.linked (λ i on. subst (λ k. i < k) (sym same) (in_entries es i (sym (h.members i) ∙ on)));
          apart = apart_without s xs ys h.apart;
          members = λ i. by_bool (nat_eq i s)
              (λ eq. subst (λ k. is_on k (xs ++ ys) ≡ key (entry_at (set es s e) k)) (sym (equal i s eq)) (off_without s xs ys h.apart ∙ sym (ap key (entry_same es s e lt) ∙ off)))
              (λ ne. sym (is_on-without i s xs ys ne) ∙ h.members i ∙ sym (ap key (entry_other es s i e ne)));
          size = omega (arith, counted, weight_true _ was, weight_false _ off, h.size, length-append xs (s ∷ ys), length-append xs ys);
          begins = subst (λ (o : Links). (ends_without (record { first = f; last = l }) o).first ≡ first_of (xs ++ ys) None) (sym own) (begins xs h.begins);
          ends = subst (λ (o : Links). (ends_without (record { first = f; last = l }) o).last ≡ last_of (xs ++ ys) None) (sym own) (ends_at ys h.ends);
        }
      where
        begins : (xs : List ℕ) → f ≡ first_of (xs ++ s ∷ ys) None → cond (is_none (last_of xs None)) (first_of ys None) f ≡ first_of (xs ++ ys) None
        begins [] h = refl
        begins (x ∷ xs) h = ap (λ (o : Option ℕ). cond (is_none o) (first_of ys None) f) (last_of-cons xs x) ∙ h

        ends_at : (ys : List ℕ) → l ≡ last_of (xs ++ s ∷ ys) None → cond (is_none (first_of ys None)) (last_of xs None) l ≡ last_of (xs ++ ys) None
        ends_at [] h = sym (last_of-append xs [] None)
        ends_at (y ∷ ys) h = h ∙ last_of-append xs (s ∷ y ∷ ys) None ∙ sym (last_of-append xs (y ∷ ys) None)

    -- a slot that was no member comes behind the last
    pub thread_back : (is : List ℕ) → IsThread links es key f l is → key (entry_at es s) ≡ false → key e ≡ true
        → IsThread (pushed_back links l s) (set es s e) key (ends_with (record { first = f; last = l }) s).first (ends_with (record { first = f; last = l }) s).last (is ++ s ∷ [])
    thread_back is h was on =
        let off : is_on s is ≡ false = h.members s ∙ was in
        record {
          linked = linked is h.ends off h.apart h.linked (λ i on. subst (λ k. i < k) (sym same) (in_entries es i (sym (h.members i) ∙ on)));
          apart = apart_push s is off h.apart;
          members = λ i. by_bool (nat_eq i s)
              (λ eq. subst (λ k. is_on k (is ++ s ∷ []) ≡ key (entry_at (set es s e) k)) (sym (equal i s eq)) (on_behind s is (s ∷ []) (first_on s []) ∙ sym (ap key (entry_same es s e lt) ∙ on)))
              (λ ne. is_on-push i s is ne ∙ h.members i ∙ sym (ap key (entry_other es s i e ne)));
          size = omega (arith, counted, weight_false _ was, weight_true _ on, h.size, length-append is (s ∷ []));
          begins = begins is h.begins;
          ends = sym (last_of-append is (s ∷ []) None);
        }
      where
        begins : (is : List ℕ) → f ≡ first_of is None → cond (is_none f) (Some s) f ≡ first_of (is ++ s ∷ []) None
        begins [] h = ap (λ (o : Option ℕ). cond (is_none o) (Some s) o) h
        begins (i ∷ is) h = ap (λ (o : Option ℕ). cond (is_none o) (Some s) o) h

        linked : (is : List ℕ) → l ≡ last_of is None → is_on s is ≡ false → IsApart is → IsLinked links None is None → ((i : ℕ) → is_on i is ≡ true → i < length links) → IsLinked (pushed_back links l s) None (is ++ s ∷ []) None
        linked [] e off a h w =
            subst (λ o. IsLinked (pushed_back links o s) None (s ∷ []) None) (sym e) (get_or-set_same links s _ alone (subst (λ k. s < k) (sym same) lt), tt)
        linked (i ∷ is) e off a h w =
            let last = last_in is i in
            let own : Links = record { previous = Some last; next = None } in
            let mid = set links s own in
            let end = set mid last (record { previous = (links_at mid last).previous; next = Some s }) in
            let lt' : s < length links = subst (λ k. s < k) (sym same) lt in
            let apart : nat_eq s last ≡ false = by_bool (nat_eq s last) (λ yes. let bad : true ≡ false = sym (subst (λ k. is_on k (i ∷ is) ≡ true) (sym (equal s last yes)) (last_on i is)) ∙ off in cc) (λ no. no) in
            subst (λ o. IsLinked (pushed_back links o s) None ((i ∷ is) ++ s ∷ []) None) (sym (e ∙ last_of-cons is i))
            (linked_join end (i ∷ is) (s ∷ []) None None
            (linked_next mid is i None None (Some s) (subst (λ k. last < k) (sym (length-set links s own)) (w last (last_on i is))) a.0 a.1 (linked_frame links s own (i ∷ is) None None off h)) (
              get_or-set_other mid last s _ alone (λ q. let no : nat_eq s last ≡ true = subst (λ k. nat_eq k last ≡ true) (sym q) (nat_eq_refl last) in let bad : true ≡ false = sym no ∙ apart in cc)
                  ∙ get_or-set_same links s own alone lt' ∙ ap (λ (o : Option ℕ). record { previous = o; next = None }) (sym (last_of-cons is i)),
              tt,
            ))

    -- another entry that no more passes than the one before it, or passes as it did
    pub thread_same : (is : List ℕ) → IsThread links es key f l is → key e ≡ key (entry_at es s) → IsThread links (set es s e) key f l is
    thread_same is h alike = record {
      linked = h.linked;
      apart = h.apart;
      members = λ i. by_bool (nat_eq i s)
          (λ eq. subst (λ k. is_on k is ≡ key (entry_at (set es s e) k)) (sym (equal i s eq)) (h.members s ∙ sym alike ∙ sym (ap key (entry_same es s e lt))))
          (λ ne. h.members i ∙ sym (ap key (entry_other es s i e ne)));
      size = let even : weight key e ≡ weight key (entry_at es s) = ap (λ b. cond b 1 0) alike in omega (arith, counted, even, h.size);
      begins = h.begins;
      ends = h.ends;
    }

  -- other links under the same list
  pub thread_links : (links links' : List Links) (es : List (Option Held)) (f l : Option ℕ) (is : List ℕ) → IsThread links es key f l is → IsLinked links' None is None → IsThread links' es key f l is
  thread_links links links' es f l is h k = record { linked = k; apart = h.apart; members = h.members; size = h.size; begins = h.begins; ends = h.ends }

-- two threads whose tests exclude each other share no slot
pub apart_by_keys : (key key' : Option Held → Bool) (links links' : List Links) (es : List (Option Held)) (f l f' l' : Option ℕ) (is js : List ℕ) → IsThread links es key f l is → IsThread links' es key' f' l' js → ((o : Option Held) → key o ≡ true → key' o ≡ false)
    → (j : ℕ) → is_on j is ≡ true → is_on j js ≡ false
apart_by_keys key key' links links' es f l f' l' is js h k excl j on = k.members j ∙ excl (entry_at es j) (sym (h.members j) ∙ on)

-- the slot behind the last of one list leaves another list as it is
pub back_frame : (links : List Links) (s : ℕ) (l : Option ℕ) (is js : List ℕ) → l ≡ last_of is None → is_on s js ≡ false → ((j : ℕ) → is_on j is ≡ true → is_on j js ≡ false) → IsLinked links None js None → IsLinked (pushed_back links l s) None js None
back_frame links s l is js e off apart h =
    next_frame (set links s (record { previous = l; next = None })) l (Some s) js None None (subst (λ o. IsOff o js) (sym e) (last_off is apart)) (linked_frame links s (record { previous = l; next = None }) js None None off h)
  where
    last_off : (is : List ℕ) → ((j : ℕ) → is_on j is ≡ true → is_on j js ≡ false) → IsOff (last_of is None) js
    last_off [] k = tt
    last_off (i ∷ is) k = subst (λ o. IsOff o js) (sym (last_of-cons is i)) (k (last_in is i) (last_on i is))

-- what stood in a slot that is put on a thread doesn't matter
pub back_over : (links : List Links) (s : ℕ) (l : Option ℕ) (x : Links) → pushed_back (set links s x) l s ≡ pushed_back links l s
back_over links s l x = ap (λ ls. next_set ls l (Some s)) (set-set links s x (record { previous = l; next = None }))

-- a slot on a line holds an entry
pub on_line_held : (v : ℕ) (fixed : Bool) (es : List (Option Held)) (s : ℕ) → line_key v fixed (entry_at es s) ≡ true → IsHeld es s
on_line_held v fixed es s h = record { in_pool = in_entries (line_key v fixed) refl es s h; held = from (entry_at es s) h }
  where
    from : (o : Option Held) → line_key v fixed o ≡ true → IsSome o
    from None h = let bad : true ≡ false = sym h in cc
    from (Some e) h = refl
