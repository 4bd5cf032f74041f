use Rattle.std.proofs.Common.{ℕ, ◌+◌, ◌*◌, ◌≤◌, List, refl, ap, ◌∙◌, arith}
use Rattle.sha2.specs.Sha256.{add_state, compress, rounds, schedule}
use Rattle.octet_sums.proofs.Words.{at_place, keyed_at_place}
use Rattle.octet_sums.proofs.sha256.block.compress.Goals as goal

pub turns-init : goal.turns-init
unfolding rounds
turns-init c =
    let words = schedule c.args.block.now 48 in
    record {
      v = refl;
      w0 = c.block_words-w0.ensures;
      w1 = c.block_words-w1.ensures;
      w2 = c.block_words-w2.ensures;
      w3 = c.block_words-w3.ensures;
      first = c.with_constants-keyed.ensures words c.block_words-w0.ensures;
      second = c.with_constants-keyed-2.ensures words c.block_words-w1.ensures;
      third = c.with_constants-keyed-3.ensures words c.block_words-w2.ensures;
      fourth = c.with_constants-keyed-4.ensures words c.block_words-w3.ensures;
    }

pub turns-preserved : goal.turns-preserved
turns-preserved c =
    let b = c.args.block.now in
    let h = c.args.state.now in
    let words = schedule b 48 in
    let t : ℕ = 16 * c.turns.turn in
    let next : ℕ = 16 * (c.turns.turn + 1) in
    let i = c.turns.invariant in
    let most : t + 32 ≤ 64 = omega arith in
    let n0 = c.next_words-w0.ensures b t (omega arith) i.w0 i.w1 i.w2 i.w3 in
    let n1 = at_place words _ (t + 4 + 16) (t + 20) (omega arith) (c.next_words-w1.ensures b (t + 4) (omega arith) i.w1
    (at_place words _ (t + 8) (t + 4 + 4) (omega arith) i.w2) (at_place words _ (t + 12) (t + 4 + 8) (omega arith) i.w3)
    (at_place words _ (t + 16) (t + 4 + 12) (omega arith) n0)) in
    let n2 = at_place words _ (t + 8 + 16) (t + 24) (omega arith) (c.next_words-w2.ensures b (t + 8) (omega arith) i.w2
    (at_place words _ (t + 12) (t + 8 + 4) (omega arith) i.w3) (at_place words _ (t + 16) (t + 8 + 8) (omega arith) n0)
    (at_place words _ (t + 20) (t + 8 + 12) (omega arith) n1)) in
    let n3 = at_place words _ (t + 12 + 16) (t + 28) (omega arith) (c.next_words-w3.ensures b (t + 12) (omega arith) i.w3
    (at_place words _ (t + 16) (t + 12 + 4) (omega arith) n0) (at_place words _ (t + 20) (t + 12 + 8) (omega arith) n1)
    (at_place words _ (t + 24) (t + 12 + 12) (omega arith) n2)) in
    let after : ℕ → List ℕ = rounds h words in
    let v1 = c.four_rounds-v.ensures h words t i.v i.first in
    let v2 = c.four_rounds-v-in-turns.ensures h words (t + 4) v1 i.second ∙ ap after (omega arith) in
    let v3 = c.four_rounds-v-in-turns-2.ensures h words (t + 8) v2 i.third ∙ ap after (omega arith) in
    let v4 = c.four_rounds-v-in-turns-3.ensures h words (t + 12) v3 i.fourth ∙ ap after (omega arith) in
    record {
      v = v4;
      w0 = at_place words _ (t + 16) next (omega arith) n0;
      w1 = at_place words _ (t + 20) (next + 4) (omega arith) n1;
      w2 = at_place words _ (t + 24) (next + 8) (omega arith) n2;
      w3 = at_place words _ (t + 28) (next + 12) (omega arith) n3;
      first = keyed_at_place words _ (t + 16) next (omega arith) (c.with_constants-keyed-in-turns.ensures words n0);
      second = keyed_at_place words _ (t + 20) (next + 4) (omega arith) (c.with_constants-keyed-in-turns-2.ensures words n1);
      third = keyed_at_place words _ (t + 24) (next + 8) (omega arith) (c.with_constants-keyed-in-turns-3.ensures words n2);
      fourth = keyed_at_place words _ (t + 28) (next + 12) (omega arith) (c.with_constants-keyed-in-turns-4.ensures words n3);
    }

pub returns : goal.returns
unfolding compress
returns c =
    let h = c.args.state.now in
    let words = schedule c.args.block.now 48 in
    let t : ℕ = 16 * c.turns.turn in
    let i = c.turns.invariant in
    let end = c.turns.auto.turn-end in
    let after : ℕ → List ℕ = rounds h words in
    let v1 = c.four_rounds-v-2.ensures h words t i.v i.first in
    let v2 = c.four_rounds-v-3.ensures h words (t + 4) v1 i.second ∙ ap after (omega arith) in
    let v3 = c.four_rounds-v-4.ensures h words (t + 8) v2 i.third ∙ ap after (omega arith) in
    let v4 = c.four_rounds-v-5.ensures h words (t + 12) v3 i.fourth ∙ ap after (omega arith) in
    ap (add_state h) v4
