use Rattle.std.proofs.Common.{◌≡◌, ◌++◌, List, ℕ, ◌∙◌, ◌-◌, ◌+◌, ap, arith}
use Rattle.std.specs.List.{flat_map, range_with_len}
use Rattle.std.specs.String.{string_bytes}
use Rattle.endpoint_core.specs.Kept.{state_of}
use Rattle.table_lines.specs.Lines.{lines_among, shown_at}
use Rattle.table_lines.proofs.LineLemmas.{segments_more, segments_all}
use Rattle.table_lines.proofs.tables.tables_text.Goals as goal
use Rattle.table_lines.proofs.tables.tables_text.Goals.{in-Some+in_ok-put_asked, in_default}

pub loop-number-preserved : goal.loop-number-preserved
loop-number-preserved c =
    let q = c.args.segments.now in
    let s = shown_at c.args.at (state_of c.args.endpoint.now) in
    let number : ℕ = c.loop-number.number in
    let next : (number - 1) + 1 ≡ (number + 1) - 1 = omega (arith, c.loop-number.auto.number) in
    elim c.match-new.branch [
      | in-Some+in_ok-put_asked w ↦
          ap string_bytes w.text-is ∙ w.in_ok-put_asked.ensures
          ∙ ap (λ (t : List ℕ). t ++ lines_among q s w.in-Some.vid) c.loop-number.invariant
          ∙ segments_more q s (number - 1) w.in-Some.vid (w.in-Some.ensures.1 ∙ omega (arith, c.loop-number.auto.number))
          ∙ ap (λ (n : ℕ). flat_map (lines_among q s) (range_with_len 1 n)) next
      | in_default w ↦ absurd (w.in_default.ensures (c.loop-number.auto.number, omega (arith, c.loop-number-test.true)))
    ]

pub returns : goal.returns
returns c =
    ap (λ v. v.items) c.into_bytes.ensures.value ∙ c.loop-number.invariant
    ∙ segments_all c.args.segments.now (shown_at c.args.at (state_of c.args.endpoint.now)) (c.loop-number.number - 1) (omega (arith, c.loop-number-test.false, c.loop-number.auto.number-end))
