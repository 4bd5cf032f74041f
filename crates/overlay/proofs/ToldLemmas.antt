-- The segments that rules tell, which are apart from one another.
use Rattle.std.proofs.Common.{◌≡◌, ℕ, suc, ◌+◌, ◌<◌, ◌≤◌, Bool, true, false, cond, eqb, not, ◌||◌, List, [], ◌∷◌, ◌++◌, length, map, get_or, Option, None, Some, refl, sym, ap, ◌∙◌, subst, arith, length-append}
use Rattle.std.specs.Prelude.{is_some}
use Rattle.std.specs.List.{find as find_where, list_any}
use Rattle.std.specs.Cmp.{nat_cmp_total}
use Rattle.std.specs.Ordering.{nat_cmp}
use Rattle.std.specs.FinMap.{get, insert, len, entries, entries_sorted, from_entries, get-empty, get-entries, len-empty, len-insert, from_entries_push, get-from_entries, nat_cmp-IsAntisymmetric}
use Rattle.std.proofs.lemmas.Bool.{false≢true, eq-eqb, eqb-true, and_from}
use Rattle.std.proofs.lemmas.List.{get_or_append_left}
use Rattle.std.proofs.Math.Seq.{get_or-append_seam}
use Rattle.std.proofs.lemmas.Option.{none-some, same_Some}
use Rattle.overlay.proofs.PlacesLemmas.{get-insert_at}
use Rattle.overlay.specs.declared.underlay.segment.Segment.{Segment}
use Rattle.overlay.specs.declared.underlay.segment.TunnelRule.{TunnelRule}
use Rattle.overlay.specs.declared.underlay.settings.Underlay.{Underlay}
use Rattle.overlay.specs.declared.underlay.tunnels.SegmentTunnel.{SegmentTunnel}
use Rattle.overlay.specs.Overlay.{Overlay, Segments, segment_of, has_tunnel, taken, are_free, AreApart, clash, told, with_segment}
use Rattle.overlay.proofs.CountLemmas.{found_where}

abbrev entry : TunnelRule → ℕ × Segment
entry rule = (rule.vid, segment_of rule)

abbrev told_by : List TunnelRule → Segments
told_by rules = from_entries (map entry rules)

-- no rule of the list clashes with one more
abbrev pub IsApartFrom : List TunnelRule → TunnelRule → Type 0
IsApartFrom rules more = (k : ℕ) (d : TunnelRule) → k < length rules → clash (get_or rules k d) more ≡ false

-- a rule of a list whose rules are apart doesn't clash with those before it
pub apart_before : (rules : List TunnelRule) (more : TunnelRule) (others : List TunnelRule) → AreApart (rules ++ more ∷ others) → IsApartFrom rules more
apart_before rules more others apart k d lt =
    let first : get_or (rules ++ more ∷ others) k d ≡ get_or rules k d = get_or_append_left rules (more ∷ others) d k lt in
    let second : get_or (rules ++ more ∷ others) (length rules) d ≡ more = get_or-append_seam rules more others d in
    sym (ap (λ (a : TunnelRule). clash a (get_or (rules ++ more ∷ others) (length rules) d)) first ∙ ap (λ (b : TunnelRule). clash (get_or rules k d) b) second)
    ∙ apart k (length rules) d lt (omega (arith, length-append rules (more ∷ others)))

behind : (rule : TunnelRule) (rules : List TunnelRule) (more : TunnelRule) → IsApartFrom (rule ∷ rules) more → IsApartFrom rules more
behind rule rules more apart k d lt = apart (suc k) d (omega arith)

or_left : (a b : Bool) → (a || b) ≡ false → a ≡ false
or_left true b h = absurd (false≢true (sym h))
or_left false b h = refl

or_right : (a b : Bool) → (a || b) ≡ false → b ≡ false
or_right true b h = absurd (false≢true (sym h))
or_right false b h = h

pub told_absent : (rules : List TunnelRule) (more : TunnelRule) → IsApartFrom rules more → get (told_by rules) more.vid ≡ None
told_absent [] more apart = get-empty nat_cmp more.vid
told_absent (rule ∷ rules) more apart =
    get-insert_at (told_by rules) rule.vid (segment_of rule) more.vid
    ∙ by (eqb more.vid rule.vid) refl (told_absent rules more (behind rule rules more apart))
  where
    other : eqb rule.vid more.vid ≡ false
    other = or_left _ _ (apart 0 rule (omega arith))

    by : (b : Bool) → eqb more.vid rule.vid ≡ b → get (told_by rules) more.vid ≡ None → cond (eqb more.vid rule.vid) (Some (segment_of rule)) (get (told_by rules) more.vid) ≡ None
    by true same rest = absurd (false≢true (sym other ∙ eq-eqb rule.vid more.vid (sym (eqb-true more.vid rule.vid same))))
    by false differs rest = ap (λ (b : Bool). cond b (Some (segment_of rule)) (get (told_by rules) more.vid)) differs ∙ rest

-- a test that fails of the segments of all rules fails of each that they tell
told_fails : (p : Segment → Bool) (rules : List TunnelRule) → ((k : ℕ) (d : TunnelRule) → k < length rules → p (segment_of (get_or rules k d)) ≡ false) → (q : ℕ) (g : Segment) → get (told_by rules) q ≡ Some g → p g ≡ false
told_fails p [] fails q g there = absurd (none-some g (sym (get-empty nat_cmp q) ∙ there))
told_fails p (rule ∷ rules) fails q g there = by (told_fails p rules (λ k d lt. fails (suc k) d (omega arith)) q g) (eqb q rule.vid) refl
  where
    at : cond (eqb q rule.vid) (Some (segment_of rule)) (get (told_by rules) q) ≡ Some g
    at = sym (get-insert_at (told_by rules) rule.vid (segment_of rule) q) ∙ there

    by : (get (told_by rules) q ≡ Some g → p g ≡ false) → (b : Bool) → eqb q rule.vid ≡ b → p g ≡ false
    by rest true same = subst (λ (h : Segment). p h ≡ false) (same_Some (segment_of rule) g (sym (ap (λ (b : Bool). cond b (Some (segment_of rule)) (get (told_by rules) q)) same) ∙ at)) (fails 0 rule (omega arith))
    by rest false differs = rest (sym (ap (λ (b : Bool). cond b (Some (segment_of rule)) (get (told_by rules) q)) differs) ∙ at)

-- and none is found by it
told_none : (p : Segment → Bool) (rules : List TunnelRule) → ((k : ℕ) (d : TunnelRule) → k < length rules → p (segment_of (get_or rules k d)) ≡ false) → find_where (λ e. p e.1) (entries (told_by rules)) ≡ None
told_none p rules fails = by (find_where (λ e. p e.1) (entries (told_by rules))) refl
  where
    by : (found : Option (ℕ × Segment)) → find_where (λ e. p e.1) (entries (told_by rules)) ≡ found → find_where (λ e. p e.1) (entries (told_by rules)) ≡ None
    by None is = is
    by (Some e) is =
        let it = found_where nat_cmp_total p (entries (told_by rules)) e (entries_sorted (told_by rules)) is in
        absurd (false≢true (sym (told_fails p rules fails e.0 e.1 (get-entries (told_by rules) e.0 ∙ it.0)) ∙ it.1))

told_free_of : (U : Underlay) (rules : List TunnelRule) (tunnels : List SegmentTunnel) → ((k : ℕ) (d : TunnelRule) → k < length rules → list_any (λ t. has_tunnel t.kind t.vni (segment_of (get_or rules k d))) tunnels ≡ false) → are_free (told U rules) tunnels ≡ true
told_free_of U rules [] fails = refl
told_free_of U rules (t ∷ tunnels) fails =
    and_from (not (taken (told U rules) t.kind t.vni)) (are_free (told U rules) tunnels)
    (ap (λ (x : Option (ℕ × Segment)). not (is_some x)) (told_none (has_tunnel t.kind t.vni) rules (λ k d lt. or_left _ _ (fails k d lt))))
    (told_free_of U rules tunnels (λ k d lt. or_right _ _ (fails k d lt)))

pub told_free : (U : Underlay) (rules : List TunnelRule) (more : TunnelRule) → IsApartFrom rules more → are_free (told U rules) more.tunnels ≡ true
told_free U rules more apart = told_free_of U rules more.tunnels (λ k d lt. or_right _ _ (apart k d lt))

-- there are no more segments than rules
pub told_size : (rules : List TunnelRule) → len (told_by rules) ≤ length rules
told_size [] = omega (arith, len-empty nat_cmp Segment)
told_size (rule ∷ rules) = by (is_some (get (told_by rules) rule.vid)) (len-insert nat_cmp_total (told_by rules) rule.vid (segment_of rule)) (told_size rules)
  where
    by : (b : Bool) → len (insert (told_by rules) rule.vid (segment_of rule)) ≡ cond b (len (told_by rules)) (len (told_by rules) + 1) → len (told_by rules) ≤ length rules → len (insert (told_by rules) rule.vid (segment_of rule)) ≤ suc (length rules)
    by true is rest = omega arith
    by false is rest = omega arith

map-entry : (rules : List TunnelRule) (more : TunnelRule) → map entry (rules ++ more ∷ []) ≡ map entry rules ++ entry more ∷ []
map-entry [] more = refl
map-entry (rule ∷ rules) more = ap (λ (l : List (ℕ × Segment)). entry rule ∷ l) (map-entry rules more)

-- one rule more tells one segment more
pub told_more : (U : Underlay) (rules : List TunnelRule) (more : TunnelRule) → IsApartFrom rules more → with_segment (told U rules) more ≡ told U (rules ++ more ∷ [])
told_more U rules more apart =
    ap (λ (m : Segments). let S : Overlay = record { underlay = U; segments = m } in S)
    (sym (ap (λ (l : List (ℕ × Segment)). from_entries l) (map-entry rules more)
    ∙ from_entries_push nat_cmp_total nat_cmp-IsAntisymmetric (map entry rules) more.vid (segment_of more) (sym (get-from_entries nat_cmp_total (map entry rules) more.vid) ∙ told_absent rules more apart)))
