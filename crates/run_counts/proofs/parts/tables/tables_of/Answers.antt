use Rattle.std.proofs.Common.{◌≡◌, ◌++◌, List, ℕ, ◌∙◌, ◌-◌, ◌+◌, ap, arith}
use Rattle.std.specs.List.{flat_map, range_with_len}
use Rattle.run_counts.specs.Tables.{lines_of}
use Rattle.run_counts.proofs.RowLemmas.{segment_more, segments_all}
use Rattle.run_counts.proofs.parts.tables.tables_of.Goals as goal

pub loop-vid-preserved : goal.loop-vid-preserved
loop-vid-preserved c =
    let rows = c.args.rows.now in
    let vid : ℕ = c.loop-vid.vid in
    let next : (vid - 1) + 1 ≡ (vid + 1) - 1 = omega (arith, c.loop-vid.auto.vid) in
    c.in_ok-put_lines.ensures
    ∙ ap (λ (t : List ℕ). t ++ lines_of rows vid) c.loop-vid.invariant
    ∙ segment_more rows (vid - 1) vid (omega (arith, c.loop-vid.auto.vid))
    ∙ ap (λ (n : ℕ). flat_map (lines_of rows) (range_with_len 1 n)) next

pub returns : goal.returns
returns c = c.loop-vid.invariant ∙ segments_all c.args.rows.now (c.loop-vid.vid - 1) (omega (arith, c.loop-vid-test.false, c.loop-vid.auto.vid-end))
