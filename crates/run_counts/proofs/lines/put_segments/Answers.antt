use Rattle.std.proofs.Common.{◌≡◌, ◌++◌, List, ℕ, ◌∙◌, ◌-◌, ◌+◌, ap, arith, Some, None}
use Rattle.std.specs.List.{flat_map, range_with_len}
use Rattle.std.specs.String.{string_bytes}
use Rattle.std.proofs.lemmas.Result.{on_ok_weaker}
use Rattle.run_counts.specs.Summary.{segment_lines, segments_text}
use Rattle.run_counts.proofs.Texts.{more_behind, segments_all, then_one}
use Rattle.run_counts.proofs.lines.put_segments.Goals as goal
use Rattle.run_counts.proofs.lines.put_segments.Goals.{in-Some+in_ok-put_segment, in_default}

pub loop-number-preserved : goal.loop-number-preserved
loop-number-preserved g c =
    let lines : ℕ → List ℕ = λ vid. segment_lines (g.C.Counted.counts c.args.counts.now) (Some vid) in
    let number : ℕ = c.loop-number.number in
    let next : (number - 1) + 1 ≡ (number + 1) - 1 = omega (arith, c.loop-number.auto.number) in
    elim c.match-new.branch [
      | in-Some+in_ok-put_segment w ↦
          ap string_bytes w.text-is
          ∙ more_behind lines (string_bytes c.args.text.now) _ _ (number - 1) w.in-Some.vid (w.in-Some.ensures.1 ∙ omega (arith, c.loop-number.auto.number)) c.loop-number.invariant w.in_ok-put_segment.ensures
          ∙ ap (λ (n : ℕ). string_bytes c.args.text.now ++ flat_map lines (range_with_len 1 n)) next
      | in_default w ↦ absurd (w.in_default.ensures (c.loop-number.auto.number, omega (arith, c.loop-number-test.true)))
    ]

pub returns : goal.returns
returns g c =
    let counts = g.C.Counted.counts c.args.counts.now in
    let lines : ℕ → List ℕ = λ vid. segment_lines counts (Some vid) in
    let so_far = flat_map lines (range_with_len 1 (c.loop-number.number - 1)) in
    let all : c.loop-number.number - 1 ≡ 4094 = omega (arith, c.loop-number-test.false, c.loop-number.auto.number-end) in
    let text = string_bytes c.args.text.now in
    on_ok_weaker {P = string_bytes c.put_segment-2.new.text ≡ string_bytes c.loop-number.text ++ segment_lines counts None} {Q = string_bytes c.put_segment-2.new.text ≡ text ++ segments_text counts} c.put_segment-2.result
    (λ put. then_one text so_far (string_bytes c.loop-number.text) (string_bytes c.put_segment-2.new.text) (segment_lines counts None) (segments_text counts) c.loop-number.invariant put (segments_all counts (c.loop-number.number - 1) all))
    c.put_segment-2.ensures
