use Rattle.std.proofs.Common.{◌∙◌, ◌*◌, ◌/◌, ◌%◌, ◌^◌, ◌<◌, ℕ, Bool, List, false, eqb, get_or, length, set, ap, arith}
use Rattle.std.proofs.lemmas.Nat.Bits.{bit_at_clear_other, bit_at_clear_same}
use Rattle.std.specs.Int.{bit_not, w64}
use Rattle.std.specs.Int.Bits.{bit_and}
use Rattle.echo_window.specs.Places.{flags_in}
use Rattle.echo_window.proofs.Placing.{flags-set}
use Rattle.echo_window.proofs.place_set.PlaceSet.remove.Goals as goal

pub returns : goal.returns
returns c =
    let words = c.self.inside.words in
    let place = c.args.place in
    let low : place < 256 = omega arith in
    let inside : place % 64 < 64 = omega arith in
    let known : place / 64 < length words = omega (arith, low, c.self.told) in
    let word = get_or words (place / 64) 0 in
    let more = bit_and word (bit_not w64 (1 * 2 ^ (place % 64) % 18446744073709551616)) in
    ap (λ (k : ℕ). flags_in (set words k (bit_and (get_or words k 0) (bit_not w64 (1 * 2 ^ c.bit_of.result % 18446744073709551616))))) c.word_of.ensures.value
    ∙ ap (λ (b : ℕ). flags_in (set words (place / 64) (bit_and word (bit_not w64 (1 * 2 ^ b % 18446744073709551616))))) c.bit_of.ensures
    ∙ flags-set false words place more low known (ap (λ (b : ℕ). eqb b 1) (bit_at_clear_same w64 word (place % 64) inside)) (λ i less away. bit_at_clear_other w64 word (place % 64) inside i less away)
    ∙ ap (λ (l : List Bool). set l place false) c.self.view_is
