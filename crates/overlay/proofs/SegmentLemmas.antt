-- The segments that words tell, as finite maps: what is read, and what a write leaves.
use Rattle.std.proofs.Common.{◌≡◌, ◌≢◌, ◌⊎◌, ℕ, ◌+◌, ◌-◌, ◌<◌, ◌≤◌, Bool, true, false, ◌&&◌, ◌||◌, cond, eqb, List, map, replicate, Option, None, Some, refl, sym, ap, ◌∙◌, arith, inl, inr}
use Rattle.std.proofs.lemmas.Bool.{cond-true, cond-false, eq-eqb, ne_eqb, cases_lt, cases_eq, cases_Bool, and_left}
use Rattle.std.proofs.lemmas.List.{get_or_past}
use Rattle.std.proofs.lemmas.List.FromFn.{get_or-map-range_with_len, length-map-range_with_len}
use Rattle.std.specs.FinMap.{empty, get, insert, remove, get-empty}
use Rattle.std.specs.List.{range_with_len}
use Rattle.std.specs.Option.{option_and_then}
use Rattle.std.specs.Ordering.{nat_cmp}
use Rattle.std.specs.Prelude.{unwrap_or, is_some}
use Rattle.overlay.specs.Bits.{stands_in, is_member_in, egress_in, members_in, segment_in, segments_in, vid_count}
use Rattle.overlay.specs.Places.{placed}
use Rattle.overlay.specs.Ports.{Members, member_set}
use Rattle.overlay.specs.declared.ports.member.Egress.{Egress}
use Rattle.overlay.specs.declared.ports.member.Egress.TheVariants.{Tagged, Untagged}
use Rattle.overlay.proofs.PlacesLemmas.{with_at, get-with_at, get-placed_at, get-placed_below, same_maps}
use Rattle.overlay.proofs.SetterLemmas.{get-member_set}
use Rattle.overlay.proofs.WordLemmas.{stands-zeros}

-- ---- places that are told one by one

told-inside : {X : Type 0} (f : ℕ → Option X) (start n q : ℕ) → start ≤ q → q < start + n → get (placed start (map f (range_with_len start n))) q ≡ f q
told-inside f start n q low high =
    get-placed_at start (map f (range_with_len start n)) q low ∙ get_or-map-range_with_len f start n (q - start) q None (omega arith) (omega arith)

told-above : {X : Type 0} (f : ℕ → Option X) (start n q : ℕ) → start + n ≤ q → get (placed start (map f (range_with_len start n))) q ≡ None
told-above f start n q high =
    get-placed_at start (map f (range_with_len start n)) q (omega arith)
    ∙ get_or_past (map f (range_with_len start n)) (q - start) None (omega (arith, length-map-range_with_len f start n))

-- ---- what is read

vid_count-is : vid_count ≡ 4096
unfolding vid_count
vid_count-is = refl

pub get-members : (count : ℕ) (words : List ℕ) (vid p : ℕ) → 1 ≤ p → p ≤ count → get (members_in count words vid) p ≡ egress_in words vid p
unfolding members_in
get-members count words vid p low high = told-inside (egress_in words vid) 1 count p low (omega arith)

pub get-members_outside : (count : ℕ) (words : List ℕ) (vid p : ℕ) → (1 ≤ p → count < p) → get (members_in count words vid) p ≡ None
unfolding members_in
get-members_outside count words vid p out = elim (cases_lt p 1) [
  | inl below ↦ get-placed_below 1 (map (egress_in words vid) (range_with_len 1 count)) p below
  | inr low ↦ told-above (egress_in words vid) 1 count p (omega (arith, out low))
]

pub segment-stands : (count : ℕ) (words : List ℕ) (vid : ℕ) → stands_in words vid ≡ true → segment_in count words vid ≡ Some (members_in count words vid)
unfolding segment_in
segment-stands count words vid is = cond-true (stands_in words vid) (Some (members_in count words vid)) None is

pub segment-none : (count : ℕ) (words : List ℕ) (vid : ℕ) → stands_in words vid ≡ false → segment_in count words vid ≡ None
unfolding segment_in
segment-none count words vid is = cond-false (stands_in words vid) (Some (members_in count words vid)) None is

pub is_some-segment : (count : ℕ) (words : List ℕ) (vid : ℕ) → is_some (segment_in count words vid) ≡ stands_in words vid
is_some-segment count words vid = elim (cases_Bool (stands_in words vid)) [
  | inl is ↦ ap is_some (segment-stands count words vid is) ∙ sym is
  | inr is ↦ ap is_some (segment-none count words vid is) ∙ sym is
]

pub get-segments : (count : ℕ) (words : List ℕ) (vid : ℕ) → vid < 4096 → get (segments_in count words) vid ≡ segment_in count words vid
unfolding segments_in
get-segments count words vid less = told-inside (segment_in count words) 0 vid_count vid (omega arith) (omega (arith, vid_count-is))

get-segments_above : (count : ℕ) (words : List ℕ) (vid : ℕ) → 4096 ≤ vid → get (segments_in count words) vid ≡ None
unfolding segments_in
get-segments_above count words vid le = told-above (segment_in count words) 0 vid_count vid (omega (arith, vid_count-is))

-- how frames of a segment leave, by its bits
abbrev at_port : ℕ → Option Members → Option Egress
at_port p o = option_and_then (λ (m : Members). get m p) o

pub egress-segment : (count : ℕ) (words : List ℕ) (vid p : ℕ) → 1 ≤ p → p ≤ count → stands_in words vid ≡ true
    → option_and_then (λ (m : Members). get m p) (segment_in count words vid) ≡ egress_in words vid p
egress-segment count words vid p low high is = ap (at_port p) (segment-stands count words vid is) ∙ get-members count words vid p low high

pub egress-no_segment : (count : ℕ) (words : List ℕ) (vid p : ℕ) → stands_in words vid ≡ false → option_and_then (λ (m : Members). get m p) (segment_in count words vid) ≡ None
egress-no_segment count words vid p is = ap (at_port p) (segment-none count words vid is)

pub egress-outside : (count : ℕ) (words : List ℕ) (vid p : ℕ) → (1 ≤ p → count < p) → option_and_then (λ (m : Members). get m p) (segment_in count words vid) ≡ None
egress-outside count words vid p out = elim (cases_Bool (stands_in words vid)) [
  | inl is ↦ ap (at_port p) (segment-stands count words vid is) ∙ get-members_outside count words vid p out
  | inr is ↦ egress-no_segment count words vid p is
]

pub member-egress : (words : List ℕ) (vid p : ℕ) → is_some (egress_in words vid p) ≡ is_member_in words vid p
member-egress words vid p = elim (cases_Bool (is_member_in words vid p)) [
  | inl is ↦ ap is_some (cond-true (is_member_in words vid p) _ None is) ∙ both _ ∙ sym is
  | inr is ↦ ap is_some (cond-false (is_member_in words vid p) _ None is) ∙ sym is
]
  where
    both : (b : Bool) → is_some (cond b (Some Untagged) (Some Tagged)) ≡ true
    both true = refl
    both false = refl

-- ---- what a write leaves

-- one segment is now this, and each other as before
pub segments-changed : (count : ℕ) (words old : List ℕ) (vid : ℕ) (now : Option Members) → vid < 4096 → segment_in count words vid ≡ now
    → ((v : ℕ) → v < 4096 → v ≢ vid → segment_in count words v ≡ segment_in count old v)
    → segments_in count words ≡ with_at (segments_in count old) vid now
segments-changed count words old vid now small own others = same_maps _ _ alike
  where
    alike : (q : ℕ) → get (segments_in count words) q ≡ get (with_at (segments_in count old) vid now) q
    alike q = elim (cases_eq q vid) [
      | inl same ↦
          ap (get (segments_in count words)) same ∙ get-segments count words vid small ∙ own
          ∙ sym (cond-true (eqb q vid) now (get (segments_in count old) q) (eq-eqb q vid same)) ∙ sym (get-with_at (segments_in count old) vid now q)
      | inr ne ↦
          other ne (cases_lt q 4096)
          ∙ sym (cond-false (eqb q vid) now (get (segments_in count old) q) (ne_eqb q vid ne)) ∙ sym (get-with_at (segments_in count old) vid now q)
    ]
      where
        other : q ≢ vid → (q < 4096) ⊎ (4096 ≤ q) → get (segments_in count words) q ≡ get (segments_in count old) q
        other ne (inl less) = get-segments count words q less ∙ others q less ne ∙ sym (get-segments count old q less)
        other ne (inr le) = get-segments_above count words q le ∙ sym (get-segments_above count old q le)

members-same : (count : ℕ) (words old : List ℕ) (v : ℕ) → ((p : ℕ) → 1 ≤ p → p ≤ count → egress_in words v p ≡ egress_in old v p) → members_in count words v ≡ members_in count old v
members-same count words old v same = same_maps _ _ alike
  where
    alike : (p : ℕ) → get (members_in count words v) p ≡ get (members_in count old v) p
    alike p = elim (cases_lt p 1) [
      | inl below ↦ get-members_outside count words v p (λ low. absurd (omega arith)) ∙ sym (get-members_outside count old v p (λ low. absurd (omega arith)))
      | inr low ↦ elim (cases_lt count p) [
        | inl above ↦ get-members_outside count words v p (λ _. above) ∙ sym (get-members_outside count old v p (λ _. above))
        | inr high ↦ get-members count words v p low high ∙ same p low high ∙ sym (get-members count old v p low high)
      ]
    ]

pub segment-same : (count : ℕ) (words old : List ℕ) (v : ℕ) → stands_in words v ≡ stands_in old v → ((p : ℕ) → 1 ≤ p → p ≤ count → egress_in words v p ≡ egress_in old v p)
    → segment_in count words v ≡ segment_in count old v
segment-same count words old v stood same = elim (cases_Bool (stands_in old v)) [
  | inl is ↦ segment-stands count words v (stood ∙ is) ∙ ap Some (members-same count words old v same) ∙ sym (segment-stands count old v is)
  | inr is ↦ segment-none count words v (stood ∙ is) ∙ sym (segment-none count old v is)
]

pub members-put : (count : ℕ) (words old : List ℕ) (v port : ℕ) (egress : Option Egress) → 1 ≤ port → port ≤ count
    → ((p : ℕ) → egress_in words v p ≡ cond (eqb p port) egress (egress_in old v p)) → members_in count words v ≡ member_set (members_in count old v) port egress
members-put count words old v port egress some few put = same_maps _ _ alike
  where
    out : (p : ℕ) → p ≢ port → get (members_in count words v) p ≡ None → get (members_in count old v) p ≡ None → get (members_in count words v) p ≡ get (member_set (members_in count old v) port egress) p
    out p ne here there =
        here ∙ sym there ∙ sym (cond-false (eqb p port) egress (get (members_in count old v) p) (ne_eqb p port ne)) ∙ sym (get-member_set (members_in count old v) port egress p)

    alike : (p : ℕ) → get (members_in count words v) p ≡ get (member_set (members_in count old v) port egress) p
    alike p = elim (cases_lt p 1) [
      | inl below ↦ out p (λ e. omega arith) (get-members_outside count words v p (λ low. absurd (omega arith))) (get-members_outside count old v p (λ low. absurd (omega arith)))
      | inr low ↦ elim (cases_lt count p) [
        | inl above ↦ out p (λ e. omega arith) (get-members_outside count words v p (λ _. above)) (get-members_outside count old v p (λ _. above))
        | inr high ↦
            get-members count words v p low high ∙ put p ∙ ap (cond (eqb p port) egress) (sym (get-members count old v p low high))
            ∙ sym (get-member_set (members_in count old v) port egress p)
      ]
    ]

pub members-none : (count : ℕ) (words : List ℕ) (v : ℕ) → ((p : ℕ) → 1 ≤ p → p ≤ count → egress_in words v p ≡ None) → members_in count words v ≡ empty
members-none count words v none = same_maps _ _ alike
  where
    alike : (p : ℕ) → get (members_in count words v) p ≡ get {R = nat_cmp} empty p
    alike p = elim (cases_lt p 1) [
      | inl below ↦ get-members_outside count words v p (λ low. absurd (omega arith)) ∙ sym (get-empty nat_cmp p)
      | inr low ↦ elim (cases_lt count p) [
        | inl above ↦ get-members_outside count words v p (λ _. above) ∙ sym (get-empty nat_cmp p)
        | inr high ↦ get-members count words v p low high ∙ none p low high ∙ sym (get-empty nat_cmp p)
      ]
    ]

-- words that are 0 tell no segment
pub segments-zeros : (count n : ℕ) → segments_in count (replicate n 0) ≡ empty
segments-zeros count n = same_maps _ _ alike
  where
    alike : (q : ℕ) → get (segments_in count (replicate n 0)) q ≡ get {R = nat_cmp} empty q
    alike q = elim (cases_lt q 4096) [
      | inl less ↦ get-segments count (replicate n 0) q less ∙ segment-none count (replicate n 0) q (stands-zeros n q) ∙ sym (get-empty nat_cmp q)
      | inr le ↦ get-segments_above count (replicate n 0) q le ∙ sym (get-empty nat_cmp q)
    ]

-- ---- what the setters leave

module _ (count : ℕ) (words old : List ℕ) (vid : ℕ) (small : vid < 4096) where
  pub segments-put : (port : ℕ) (egress : Option Egress) → 1 ≤ port → port ≤ count → stands_in old vid ≡ true
      → ((v p : ℕ) → v < 4096 → egress_in words v p ≡ cond (eqb v vid && eqb p port) egress (egress_in old v p))
      → ((v : ℕ) → v < 4096 → stands_in words v ≡ stands_in old v)
      → segments_in count words ≡ insert (segments_in count old) vid (member_set (unwrap_or (get (segments_in count old) vid) empty) port egress)
  segments-put port egress low high is put stood =
      segments-changed count words old vid (Some (member_set (unwrap_or (get (segments_in count old) vid) empty) port egress)) small
      (segment-stands count words vid (stood vid small ∙ is)
      ∙ ap Some (members-put count words old vid port egress low high (λ p. put vid p small ∙ ap (λ (b : Bool). cond (b && eqb p port) egress (egress_in old vid p)) (eq-eqb vid vid refl))
      ∙ ap (λ (o : Option Members). member_set (unwrap_or o empty) port egress) (sym (get-segments count old vid small ∙ segment-stands count old vid is))))
      (λ v less ne. segment-same count words old v (stood v less) (λ p _ _. put v p less ∙ cond-false (eqb v vid && eqb p port) egress (egress_in old v p) (and_left _ _ (ne_eqb v vid ne))))

  pub segments-added : ((v p : ℕ) → v < 4096 → 1 ≤ p → p ≤ count → egress_in words v p ≡ cond (eqb v vid) None (egress_in old v p))
      → ((v : ℕ) → v < 4096 → stands_in words v ≡ (eqb v vid || stands_in old v))
      → segments_in count words ≡ insert (segments_in count old) vid empty
  segments-added put stood =
      segments-changed count words old vid (Some empty) small
      (segment-stands count words vid (stood vid small ∙ ap (λ (b : Bool). b || stands_in old vid) (eq-eqb vid vid refl))
      ∙ ap Some (members-none count words vid (λ p low high. put vid p small low high ∙ cond-true (eqb vid vid) None (egress_in old vid p) (eq-eqb vid vid refl))))
      (λ v less ne. segment-same count words old v (stood v less ∙ ap (λ (b : Bool). b || stands_in old v) (ne_eqb v vid ne))
      (λ p low high. put v p less low high ∙ cond-false (eqb v vid) None (egress_in old v p) (ne_eqb v vid ne)))

  pub segments-removed : ((v p : ℕ) → v < 4096 → 1 ≤ p → egress_in words v p ≡ egress_in old v p)
      → ((v : ℕ) → v < 4096 → stands_in words v ≡ cond (eqb v vid) false (stands_in old v))
      → segments_in count words ≡ remove (segments_in count old) vid
  segments-removed kept stood =
      segments-changed count words old vid None small
      (segment-none count words vid (stood vid small ∙ cond-true (eqb vid vid) false (stands_in old vid) (eq-eqb vid vid refl)))
      (λ v less ne. segment-same count words old v (stood v less ∙ cond-false (eqb v vid) false (stands_in old v) (ne_eqb v vid ne)) (λ p low _. kept v p less low))
