-- No number or source has a quotation mark or a comma in it.
use Rattle.std.proofs.Common.{◌≡◌, ◌≢◌, ℕ, zero, suc, ◌+◌, ◌/◌, ◌%◌, ◌<◌, Bool, true, false}
use Rattle.std.proofs.Common.{cond, eqb, List, [], ◌∷◌, refl, sym, ◌∙◌, arith}
use Rattle.std.proofs.lemmas.Bool.{cond-false, cond-true, lt-ltb, ne_eqb}
use Rattle.std.specs.Fmt.{decimal, digit_glyph, digits, digits_onto}
use Rattle.timeline.specs.Words.{source_word, tap_word}
use Rattle.timeline.specs.declared.source.Source.{Source}
use Rattle.timeline.specs.declared.source.Source.TheVariants as sources
use Rattle.timeline.specs.declared.source.Tap.{Tap}
use Rattle.timeline.specs.declared.source.Tap.TheVariants.{Port, Underlay}
use Rattle.line_words.proofs.Decimals.{IsNoDigit, lacks}

lacks_cons : (s c : ℕ) (w : List ℕ) → c ≢ s → lacks s w ≡ true → lacks s (c ∷ w) ≡ true
lacks_cons s c w h k = cond-false _ _ _ (ne_eqb c s h) ∙ k

-- ---- numbers

digits_lack : (k s n : ℕ) (end : List ℕ) → IsNoDigit s → lacks s end ≡ true → lacks s (digits_onto k 10 false n end) ≡ true
digits_lack zero s n end other h = h
digits_lack (suc k) s n end other h = by (eqb (n / 10) 0) (digits_lack k s (n / 10) (digit_glyph false (n % 10) ∷ end) other more)
  where
    more : lacks s (digit_glyph false (n % 10) ∷ end) ≡ true
    more =
        let low : n % 10 < 10 = omega arith in
        let is : digit_glyph false (n % 10) ≡ 48 + n % 10 = cond-true _ _ _ (lt-ltb (n % 10) 10 low) in
        lacks_cons s (digit_glyph false (n % 10)) end (λ e. other (n % 10) low (sym is ∙ e)) h

    by : (b : Bool) → lacks s (digits_onto k 10 false (n / 10) (digit_glyph false (n % 10) ∷ end)) ≡ true
        → lacks s (cond b (digit_glyph false (n % 10) ∷ end) (digits_onto k 10 false (n / 10) (digit_glyph false (n % 10) ∷ end))) ≡ true
    by true rest = more
    by false rest = rest

pub number_lacks : (s n : ℕ) → IsNoDigit s → lacks s (decimal n) ≡ true
unfolding digits
number_lacks s n other = digits_lack 64 s n [] other refl

no_quote : IsNoDigit 34
no_quote d low e = omega (arith, e)

no_comma : IsNoDigit 44
no_comma d low e = omega (arith, e)

pub quote_number : (n : ℕ) → lacks 34 (decimal n) ≡ true
quote_number n = number_lacks 34 n no_quote

pub comma_number : (n : ℕ) → lacks 44 (decimal n) ≡ true
comma_number n = number_lacks 44 n no_comma

-- ---- sources

pub quote_tap : (tap : Tap) → lacks 34 (tap_word tap) ≡ true
quote_tap (Port port) = quote_number port
quote_tap Underlay = refl

pub quote_source : (source : Source) → lacks 34 (source_word source) ≡ true
quote_source sources.Changes = refl
quote_source (sources.Tap tap) = quote_tap tap
