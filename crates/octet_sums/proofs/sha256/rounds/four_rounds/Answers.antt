use Rattle.std.proofs.Common.{◌≡◌, ℕ, ◌+◌, List, ap, ◌∙◌, arith, slice_index}
use Rattle.sha2.specs.Sha256.{round_constants, rounds}
use Rattle.octet_sums.specs.Lanes.{four_keyed}
use Rattle.octet_sums.proofs.Words.{one_more}
use Rattle.octet_sums.proofs.sha256.rounds.four_rounds.Goals as goal

pub returns : goal.returns
returns c h words t v keyed =
    let after : ℕ → List ℕ = rounds h words in
    let key : ℕ → ℕ = slice_index round_constants in
    let word : ℕ → ℕ = slice_index words in
    let read : c.as_array-words.result.now ≡ four_keyed words t = c.as_array-words.ensures ∙ keyed in
    let s1 = one_more h words _ _ t v (c.round-v.ensures (key t) (word t) (ap (λ (l : List ℕ). slice_index l 0) read)) in
    let s2 = one_more h words _ _ (t + 1) s1 (c.round-v-2.ensures (key (t + 1)) (word (t + 1)) (ap (λ (l : List ℕ). slice_index l 1) read)) ∙ ap after (omega arith) in
    let s3 = one_more h words _ _ (t + 2) s2 (c.round-v-3.ensures (key (t + 2)) (word (t + 2)) (ap (λ (l : List ℕ). slice_index l 2) read)) ∙ ap after (omega arith) in
    one_more h words _ _ (t + 3) s3 (c.round.ensures (key (t + 3)) (word (t + 3)) (ap (λ (l : List ℕ). slice_index l 3) read)) ∙ ap after (omega arith)
