use Rattle.std.proofs.Common.{◌∙◌, ◌/◌, ℕ, Bool, List, false, eqb, get_or, sym, ap, arith, ◌<◌}
use Rattle.std.proofs.lemmas.Nat.Bits.{shr_and_one}
use Rattle.std.specs.Int.{bit_at}
use Rattle.echo_window.proofs.Placing.{flags-at}
use Rattle.echo_window.proofs.place_set.PlaceSet.has.Goals as goal

pub returns : goal.returns
returns c =
    let words = c.self.inside.words in
    let low : c.args.place < 256 = omega arith in
    ap (λ (n : ℕ). eqb n 1) (shr_and_one (get_or words c.word_of.result 0) c.bit_of.result)
    ∙ ap (λ (k : ℕ). eqb (bit_at (get_or words k 0) c.bit_of.result) 1) c.word_of.ensures.value
    ∙ ap (λ (k : ℕ). eqb (bit_at (get_or words (c.args.place / 64) 0) k) 1) c.bit_of.ensures
    ∙ sym (flags-at words c.args.place low)
    ∙ ap (λ (l : List Bool). get_or l c.args.place false) c.self.view_is
