-- What the words of a line tell of its segment.
use Rattle.std.proofs.Common.{◌≡◌, ◌∙◌, ap, sym, ℕ, ◌<◌, arith, List, length, subst, Option, Some, None}
use Rattle.std.specs.Prelude.{codes, MatchOption}
use Rattle.std.specs.Option.{SomeIff}
use Rattle.wire.specs.Tag.{IsVid}
use Rattle.line_words.specs.Numbers.{number_of}
use Rattle.line_words.specs.Words.{word, behind}
use Rattle.run_counts.specs.Tables.{IsOf}
use Rattle.run_counts.proofs.LineLemmas.{of_words, words_of}

-- nothing stands behind the second word
pub nothing_told : (line words told : List ℕ) → words ≡ behind line → told ≡ behind words → length told ≡ 0 → (vid : ℕ) → IsVid vid → IsOf vid line → ⊥
nothing_told line words told second rest none vid small is =
    let some : 0 < length (behind (behind line)) = (words_of line vid (omega (arith, small)) is).some in
    let same : length told ≡ length (behind (behind line)) = ap length (rest ∙ ap behind second) in
    omega (arith, some, same, none)

-- the number of the second word
number_told : (line words number : List ℕ) → words ≡ behind line → number ≡ word words → (vid : ℕ) → IsVid vid → IsOf vid line → number_of number ≡ Some vid
number_told line words number second first vid small is = ap number_of (first ∙ ap word second) ∙ (words_of line vid (omega (arith, small)) is).number

none_some : (vid : ℕ) → None ≡ Some vid → ⊥
none_some vid same = absurd cc

some_same : (m n : ℕ) → Some m ≡ Some n → m ≡ n
some_same m n same = cc

-- it is no number
pub no_number : (line words number : List ℕ) → words ≡ behind line → number ≡ word words → number_of number ≡ None → (vid : ℕ) → IsVid vid → IsOf vid line → ⊥
no_number line words number second first none vid small is = none_some vid (sym none ∙ number_told line words number second first vid small is)

-- it is too great
pub too_great : (line words number : List ℕ) (n : ℕ) → words ≡ behind line → number ≡ word words → number_of number ≡ Some n → 65535 < n → (vid : ℕ) → IsVid vid → IsOf vid line → ⊥
too_great line words number n second first read great vid small is =
    let one : n ≡ vid = some_same n vid (sym read ∙ number_told line words number second first vid small is) in
    omega (arith, one, small, great)

-- it is a number, which a VID may have or not
pub segment_found : (line words number told : List ℕ) (n : ℕ) (found : Option ℕ) → word line ≡ codes "segment" → words ≡ behind line → number ≡ word words → told ≡ behind words
    → 0 < length told → number_of number ≡ Some n → SomeIff found (IsVid n) n → MatchOption found ((vid : ℕ) → IsVid vid → IsOf vid line → ⊥) (λ (vid : ℕ). IsOf vid line)
segment_found line words number told n None kind second first rest some read is =
    λ vid small of.
    let one : n ≡ vid = some_same n vid (sym read ∙ number_told line words number second first vid small of) in
    is (subst IsVid (sym one) small)
segment_found line words number told n (Some v) kind second first rest some read is =
    subst (λ (k : ℕ). IsOf k line) (sym is.1)
    (of_words line n
    (record {
      kind = kind;
      some = subst (λ (t : List ℕ). 0 < length t) (rest ∙ ap behind second) some;
      number = sym (ap number_of (first ∙ ap word second)) ∙ read;
    }))
