use Rattle.std.proofs.Common.{◌∙◌, ◌*◌, ◌/◌, ◌%◌, ◌^◌, ◌<◌, ℕ, Bool, List, true, eqb, bit_or, get_or, length, set, ap, arith}
use Rattle.std.proofs.lemmas.Nat.Bits.{bit_at_set_other, bit_at_set_same}
use Rattle.std.specs.Int.{w64}
use Rattle.echo_window.specs.Places.{flags_in}
use Rattle.echo_window.proofs.Placing.{flags-set}
use Rattle.echo_window.proofs.place_set.PlaceSet.add.Goals as goal

pub returns : goal.returns
returns c =
    let words = c.self.inside.words in
    let place = c.args.place in
    let low : place < 256 = omega arith in
    let inside : place % 64 < 64 = omega arith in
    let known : place / 64 < length words = omega (arith, low, c.self.told) in
    let word = get_or words (place / 64) 0 in
    let more = bit_or word (1 * 2 ^ (place % 64) % 18446744073709551616) in
    ap (λ (k : ℕ). flags_in (set words k (bit_or (get_or words k 0) (1 * 2 ^ c.bit_of.result % 18446744073709551616)))) c.word_of.ensures.value
    ∙ ap (λ (b : ℕ). flags_in (set words (place / 64) (bit_or word (1 * 2 ^ b % 18446744073709551616)))) c.bit_of.ensures
    ∙ flags-set true words place more low known (ap (λ (b : ℕ). eqb b 1) (bit_at_set_same w64 word (place % 64) inside)) (λ i less away. bit_at_set_other w64 word (place % 64) inside i away)
    ∙ ap (λ (l : List Bool). set l place true) c.self.view_is
