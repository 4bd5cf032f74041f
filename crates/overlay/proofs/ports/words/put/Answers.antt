use Rattle.std.proofs.Common.{◌∙◌, eqb, slice_index_or, sym, ap}
use Rattle.std.proofs.lemmas.Nat.Bits.{bit_at_set_same, bit_at_set_other, bit_at_clear_same, bit_at_clear_other}
use Rattle.std.specs.Int.{w64}
use Rattle.overlay.proofs.WordLemmas.{has_bit-set}
use Rattle.overlay.proofs.ports.words.put.Goals as goal

pub returns-then-value : goal.returns-then-value
returns-then-value c q b low =
    let word = slice_index_or c.args.words.now c.args.place 0 in
    has_bit-set c.args.words.now c.args.place c.args.bit q b _ c.args.value c.requires.place
    (ap (λ k. eqb k 1) (bit_at_set_same w64 word c.args.bit c.requires.bit) ∙ sym c.if-value.true)
    (λ i less ne. bit_at_set_other w64 word c.args.bit c.requires.bit i ne) low

pub returns-else-value : goal.returns-else-value
returns-else-value c q b low =
    let word = slice_index_or c.args.words.now c.args.place 0 in
    has_bit-set c.args.words.now c.args.place c.args.bit q b _ c.args.value c.requires.place
    (ap (λ k. eqb k 1) (bit_at_clear_same w64 word c.args.bit c.requires.bit) ∙ sym c.if-value.false)
    (λ i less ne. bit_at_clear_other w64 word c.args.bit c.requires.bit i less ne) low
