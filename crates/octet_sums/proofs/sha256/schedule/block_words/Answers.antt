use Rattle.std.proofs.Common.{◌≡◌, ℕ, ◌+◌, ◌*◌, ◌<◌, slice_index, refl, sym, ◌∙◌, arith}
use Rattle.sha2.specs.Sha256.{schedule, word_at}
use Rattle.sha2.proofs.Schedule256.{slice_index-schedule_first}
use Rattle.octet_sums.proofs.sha256.schedule.block_words.Goals as goal

pub returns : goal.returns
returns c =
    let b = c.args.block.now in
    let t = c.args.t in
    let at : (k : ℕ) → k < 16 → word_at b (4 * k) ≡ slice_index (schedule b 48) k = λ k less. sym (slice_index-schedule_first b 48 k less) in
    let w0 = c.word.ensures ∙ at t (omega arith) in
    let w1 = c.word-2.ensures ∙ at (t + 1) (omega arith) in
    let w2 = c.word-3.ensures ∙ at (t + 2) (omega arith) in
    let w3 = c.word-4.ensures ∙ at (t + 3) (omega arith) in
    rw (w0, w1, w2, w3) refl
