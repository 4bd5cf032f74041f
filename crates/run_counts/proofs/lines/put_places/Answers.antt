use Rattle.std.proofs.Common.{◌≡◌, ap, ℕ, ◌+◌, ◌++◌, List, arith}
use Rattle.std.specs.List.{flat_map, range_with_len}
use Rattle.std.specs.String.{string_bytes}
use Rattle.std.proofs.lemmas.Result.{on_ok_weaker}
use Rattle.timeline.specs.declared.source.Tap.TheVariants.{Port, Underlay}
use Rattle.run_counts.specs.Keeping.{flow_in, passed}
use Rattle.run_counts.specs.Summary.{place_lines, places_text}
use Rattle.run_counts.proofs.Texts.{more_behind, then_one}
use Rattle.run_counts.proofs.lines.put_places.Goals as goal

pub loop-index-preserved : goal.loop-index-preserved
loop-index-preserved c =
    let totals = passed (flow_in c.args.came.now) (flow_in c.args.left.now) in
    let lines : ℕ → List ℕ = λ port. place_lines totals (Port port) in
    let now = string_bytes c.loop-index.text in
    more_behind lines (string_bytes c.args.text.now) now (string_bytes c.put_place.new.text) c.loop-index.index (c.loop-index.index + 1) (omega arith) c.loop-index.invariant c.in_ok-put_place.ensures

pub returns : goal.returns
returns c =
    let totals = passed (flow_in c.args.came.now) (flow_in c.args.left.now) in
    let lines : ℕ → List ℕ = λ port. place_lines totals (Port port) in
    let text = string_bytes c.args.text.now in
    let now = string_bytes c.loop-index.text in
    let new = string_bytes c.put_place-2.new.text in
    let all : c.loop-index.index ≡ c.args.ports = omega (arith, c.loop-index-test.false, c.loop-index.auto.index-end) in
    let whole : flat_map lines (range_with_len 1 c.loop-index.index) ++ place_lines totals Underlay ≡ places_text totals c.args.ports =
    ap (λ (n : ℕ). flat_map lines (range_with_len 1 n) ++ place_lines totals Underlay) all in
    on_ok_weaker c.put_place-2.result
    (λ put. then_one text (flat_map lines (range_with_len 1 c.loop-index.index)) now new (place_lines totals Underlay) (places_text totals c.args.ports) c.loop-index.invariant put whole)
    c.put_place-2.ensures
