use Rattle.std.proofs.Common.{◌≡◌, ◌∙◌, ◌++◌, ◌-◌, List, ℕ, ap, length}
use Rattle.echo_window.specs.Bucket.{with_word}
use Rattle.echo_window.proofs.bucket.sum_of_words.Goals as goal

then : (s t : ℕ) (place : ℕ) (text : List ℕ) (more : ℕ) → more ≡ with_word s place text → s ≡ t → more ≡ with_word t place text
then s t place text more is same = is ∙ ap (λ n. with_word n place text) same

pub returns : goal.returns
returns c =
    let text : List ℕ = c.args.front.now ++ c.args.rest.now in
    let last : c.saturating_sub.result ≡ length text - 8 = c.saturating_sub.ensures ∙ ap (λ n. n - 8) c.requires in
    let begun = then _ _ 12 text _ c.with_word-sum-3.ensures (then _ _ 4 text _ c.with_word-sum-2.ensures (then _ _ 0 text _ c.with_word-sum.ensures c.requires)) in
    let half = then _ _ 36 text _ c.with_word-sum-6.ensures (then _ _ 28 text _ c.with_word-sum-5.ensures (then _ _ 20 text _ c.with_word-sum-4.ensures begun)) in
    let first = then _ _ 52 text _ c.with_word-sum-8.ensures (then _ _ 44 text _ c.with_word-sum-7.ensures half) in
    then _ _ (length text - 8) text _ (c.with_word.ensures ∙ ap (λ place. with_word c.with_word-sum-8.result place text) last) first
