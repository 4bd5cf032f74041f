-- Where segments send frames out, as it is kept.
use Rattle.std.proofs.Common.{◌≡◌, ◌≢◌, ◌⊎◌, inl, inr, ℕ, ◌+◌, ◌≤◌, ◌<◌, ◌&&◌, nat_eq, nat_lt, min, Bool, true, false, if◌then◌else◌}
use Rattle.std.proofs.Common.{List, [], ◌∷◌, zero, suc, length, get_or, replicate, set, refl, sym, ap, ◌∙◌, arith, get_or-set_other, get_or-set_same}
use Rattle.std.proofs.lemmas.Bool.{cases_eq, eq-eqb, eqb-true, ltb-true}
use Rattle.std.proofs.lemmas.List.{length-replicate}
use Rattle.both_ways.specs.Outlets.{Kept, is_kept, kept_outlets, with_outlets}
use Rattle.both_ways.specs.Told.{no_places, outlets}
use Rattle.overlay.specs.Ports.{Ports}

-- nothing is kept where each was worked out in an earlier era, or in the last
both_not : (p q : Bool) → (p ≡ true → q ≡ true → ⊥) → (p && q) ≡ false
both_not true true h = absurd (h refl refl)
both_not true false h = refl
both_not false q h = refl

pub none-kept : (k : Kept) (vid : ℕ) → (k.era < 18446744073709551615 → get_or k.eras vid 0 < k.era) → is_kept k vid ≡ false
none-kept k vid early =
    both_not (nat_lt k.era 18446744073709551615) (nat_eq (get_or k.eras vid 0) k.era)
    (λ low same. let less = early (ltb-true k.era 18446744073709551615 low) in let is = eqb-true (get_or k.eras vid 0) k.era same in absurd (omega (arith, less, is)))

pub by-settings : (k : Kept) (P : Ports) (vid : ℕ) → is_kept k vid ≡ false → kept_outlets k P vid ≡ outlets P vid
by-settings k P vid none = ap (λ (q : Bool). if q then get_or k.places vid no_places else outlets P vid) none

pub as-kept : (k : Kept) (P : Ports) (vid : ℕ) → is_kept k vid ≡ true → kept_outlets k P vid ≡ get_or k.places vid no_places
as-kept k P vid is = ap (λ (q : Bool). if q then get_or k.places vid no_places else outlets P vid) is

-- so behind a change, whatever the settings are
pub forgotten : (k : Kept) (era : ℕ) → era ≡ min (k.era + 1) 18446744073709551615 → ((vid : ℕ) → get_or k.eras vid 0 ≤ k.era) → (P : Ports) (vid : ℕ)
    → kept_outlets (record { era = era; eras = k.eras; places = k.places }) P vid ≡ outlets P vid
forgotten k era is low P vid =
    let new : Kept = record { era = era; eras = k.eras; places = k.places } in
    by-settings new P vid (none-kept new vid (λ less. omega (arith, is, less, low vid)))

-- what is kept of a segment is as it was known, and of the others it stays
module _ (k : Kept) (P : Ports) (vid : ℕ) (places : List Bool) (is : places ≡ kept_outlets k P vid) (eras : vid < length k.eras) (rows : vid < length k.places) where
  abbrev new : Kept
  new = with_outlets k vid places

  own : (q : Bool) → nat_lt k.era 18446744073709551615 ≡ q → kept_outlets new P vid ≡ kept_outlets k P vid
  own true low =
      let here : is_kept new vid ≡ true =
      ap (λ (p : Bool). p && nat_eq (get_or (set k.eras vid k.era) vid 0) k.era) low
      ∙ ap (λ (n : ℕ). nat_eq n k.era) (get_or-set_same k.eras vid k.era 0 eras) ∙ eq-eqb k.era k.era refl in
      as-kept new P vid here ∙ get_or-set_same k.places vid places no_places rows ∙ is
  own false high =
      let before : is_kept k vid ≡ false = ap (λ (p : Bool). p && nat_eq (get_or k.eras vid 0) k.era) high in
      let behind : is_kept new vid ≡ false = ap (λ (p : Bool). p && nat_eq (get_or (set k.eras vid k.era) vid 0) k.era) high in
      by-settings new P vid behind ∙ sym (by-settings k P vid before)

  by : (v : ℕ) → (v ≡ vid) ⊎ (v ≢ vid) → kept_outlets new P v ≡ kept_outlets k P v
  by v (inl same) =
      ap (λ (n : ℕ). kept_outlets new P n) same ∙ own (nat_lt k.era 18446744073709551615) refl ∙ sym (ap (λ (n : ℕ). kept_outlets k P n) same)
  by v (inr other) =
      let low = nat_lt k.era 18446744073709551615 in
      ap (λ (n : ℕ). if low && nat_eq n k.era then get_or (set k.places vid places) v no_places else outlets P v) (get_or-set_other k.eras vid v k.era 0 other)
      ∙ ap (λ (l : List Bool). if low && nat_eq (get_or k.eras v 0) k.era then l else outlets P v) (get_or-set_other k.places vid v places no_places other)

  pub same-outlets : (v : ℕ) → kept_outlets new P v ≡ kept_outlets k P v
  same-outlets v = by v (cases_eq v vid)

-- no era is past the one that there is
pub eras-low : (eras : List ℕ) (at era : ℕ) → ((vid : ℕ) → get_or eras vid 0 ≤ era) → (vid : ℕ) → get_or (set eras at era) vid 0 ≤ era
eras-low eras at era low vid = by (cases_eq vid at)
  where
    own : (l : List ℕ) (i : ℕ) → ((v : ℕ) → get_or l v 0 ≤ era) → get_or (set l i era) i 0 ≤ era
    own [] i h = omega (arith)
    own (x ∷ l) zero h = omega arith
    own (x ∷ l) (suc i) h = own l i (λ v. h (suc v))

    by : (vid ≡ at) ⊎ (vid ≢ at) → get_or (set eras at era) vid 0 ≤ era
    by (inl same) = omega (arith, own eras at low, ap (λ (n : ℕ). get_or (set eras at era) n 0) same)
    by (inr other) = omega (arith, low vid, get_or-set_other eras at vid era 0 other)

-- none was worked out yet
zeros : (n i : ℕ) → ◌≡◌ {A = ℕ} (get_or (replicate n 0) i 0) 0
zeros zero i = refl
zeros (suc n) zero = refl
zeros (suc n) (suc i) = zeros n i

pub no-era : (n : ℕ) (eras : List ℕ) → eras ≡ replicate n 0 → (vid : ℕ) → get_or eras vid 0 ≡ 0
no-era n eras is vid = ap (λ (l : List ℕ). get_or l vid 0) is ∙ zeros n vid

pub era-count : (n : ℕ) (eras : List ℕ) → n ≡ 4096 → eras ≡ replicate n 0 → length eras ≡ 4096
era-count n eras size is = ap (λ (l : List ℕ). length l) is ∙ length-replicate n 0 ∙ size
