use Rattle.std.proofs.Common.{◌≡◌, ◌∙◌, ◌≤◌, ◌-◌, ◌++◌, List, ℕ, append_assoc, ap, arith, length, replicate}
use Rattle.std.proofs.lemmas.Fmt.{length-decimal-le}
use Rattle.std.specs.Fmt.{decimal}
use Rattle.std.specs.String.{string_bytes}
use Rattle.table_lines.specs.Lines.{nine_digits}
use Rattle.table_lines.proofs.LineLemmas.{put_whole}
use Rattle.table_lines.proofs.line.put_nine.Goals as goal

pub returns : goal.returns
unfolding nine_digits
returns c =
    let old = string_bytes c.args.text.now in
    let n = c.args.number in
    let digits = c.format-digits.result.now in
    let is : digits ≡ decimal n = c.format-digits.ensures.text in
    let short : length (decimal n) ≤ 9 = length-decimal-le 9 n (omega arith) (omega arith) (omega arith) in
    let many : c.loop-zero._zero - length digits ≡ 9 - length (decimal n) =
    omega (arith, short, ap (λ (t : List ℕ). length t) is, c.loop-zero-test.false, c.loop-zero.auto._zero-end) in
    put_whole c.push_str.result (string_bytes c.push_str.new.self) _ _ _ c.push_str.ensures.bytes
    (ap (λ (t : List ℕ). t ++ digits) c.loop-zero.invariant
    ∙ append_assoc old (replicate (c.loop-zero._zero - length digits) 48) digits
    ∙ (λ i. old ++ (replicate (many i) 48 ++ is i)))
