use Rattle.std.proofs.Common.{◌∙◌, ap, List, ℕ, [], ◌∷◌, ◌++◌, append_assoc, codes, decimal}
use Rattle.std.specs.String.{string_bytes}
use Rattle.std.proofs.lemmas.Result.{on_ok_weaker}
use Rattle.run_counts.specs.Summary.{segment_word}
use Rattle.run_counts.proofs.Texts.{dropped_is}
use Rattle.run_counts.proofs.lines.put_dropped.Goals as goal

pub returns : goal.returns
returns g c =
    let text = string_bytes c.args.text.now in
    let front : List ℕ = codes "segment " ++ segment_word c.args.segment.now ++ codes " " in
    let rest : List ℕ = codes "dropped " ++ (decimal c.number-number.result ++ (codes " " ++ (c.name-name.result.now ++ (codes " " ++ (decimal c.count-count.result ++ 10 ∷ []))))) in
    on_ok_weaker c.writeln.result
    (λ put. put ∙ ap (λ (l : List ℕ). l ++ rest) c.in_ok-put_front.ensures ∙ append_assoc text front rest ∙ ap (λ (l : List ℕ). text ++ l)
    (dropped_is (g.C.Counted.counts c.args.counts.now) c.args.segment.now c.args.reason c.number-number.result c.count-count.result c.name-name.result.now c.number-number.ensures.value c.name-name.ensures.value c.count-count.ensures c.if-count-eq0.false))
    c.writeln.ensures.bytes
