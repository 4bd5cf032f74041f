use Rattle.std.proofs.Common.{◌≡◌, ◌∙◌, ap, ◌+◌, ◌<◌, drop, subst, arith, length, slice_index_or, ℕ, List, Option}
use Rattle.std.proofs.lemmas.List.{get_or_default}
use Rattle.std.specs.List.{cons_option}
use Rattle.std.specs.Option.{option_to_list}
use Rattle.pcap.specs.Source.{Stream}
use Rattle.timeline.specs.declared.timeline.Cut.{Cut}
use Rattle.timeline.specs.declared.source.Tap.TheVariants.{Port, Underlay}
use Rattle.capture_run.specs.Outputs.{Outputs}
use Rattle.capture_run.specs.Writing.{with_cuts}
use Rattle.stream_run.specs.Begun.{no_turn}
use Rattle.stream_run.specs.Cuts.{cut_behind, cuts_at, cuts_from}
use Rattle.stream_run.specs.Stage.{Drains, Lead, StandAt, StandBetween}
use Rattle.stream_run.specs.declared.turn.Turn.{Turn}
use Rattle.stream_run.proofs.Cutting.{CutSoFar, cut_failed, last_cut, left_at, left_last, none_cut, one_cut}
use Rattle.stream_run.proofs.cuts.put_cuts.Given.{Over}
use Rattle.stream_run.proofs.cuts.put_cuts.Goals.{After-put_cut}
use Rattle.stream_run.proofs.cuts.put_cuts.Goals as goal

pub loop-i-init : goal.loop-i-init
loop-i-init g c start o at = none_cut start c.args.outputs.now o (cuts_at c.args.captures.now.ports.items c.args.captures.now.underlay c.args.turns.now) at

-- the line that comes next, if one does, and those behind it
module _ (g : Over) (c : After-put_cut g) where
  abbrev next : Option Cut
  next = cut_behind (Port (c.loop-i.i + 1)) (slice_index_or c.args.captures.now.ports.items c.loop-i.i c.index.result.now) (slice_index_or c.args.turns.now (c.loop-i.i + 1) no_turn).done

  abbrev rest : List Cut
  rest = cuts_from (c.loop-i.i + 1 + 1) (drop (c.loop-i.i + 1) c.args.captures.now.ports.items) c.args.captures.now.underlay c.args.turns.now

  abbrev all : List Cut
  all = cuts_at c.args.captures.now.ports.items c.args.captures.now.underlay c.args.turns.now

  there_is : c.loop-i.i < length c.args.captures.now.ports.items
  there_is = let many : c.len-i-end.result ≡ length c.args.captures.now.ports.items = c.len-i-end.ensures ∙ c.args.captures.now.ports.ok.0 in omega (arith, c.loop-i-test.true, many)

  so_far : (start : Drains) (o : Outputs) → StandAt start c.args.outputs.now o
      → CutSoFar start c.loop-i.outputs o (cons_option next rest) all
  so_far start o at =
      subst (λ l. CutSoFar start c.loop-i.outputs o l all)
      (left_at c.args.captures.now.ports.items c.args.captures.now.underlay c.args.turns.now c.loop-i.i c.index.result.now there_is) (c.loop-i.invariant start o at)

  -- it is the one that was put
  put_is : (d : Turn) → cut_behind (Port (c.loop-i.i + 1)) c.index.result.now (slice_index_or c.args.turns.now (c.loop-i.i + 1) d).done ≡ next
  put_is d =
      let there : c.loop-i.i + 1 < length c.args.turns.now = omega (arith, c.requires.turns, there_is) in
      ap (λ (t : Turn). cut_behind (Port (c.loop-i.i + 1)) c.index.result.now t.done) (get_or_default c.args.turns.now (c.loop-i.i + 1) d no_turn there)
      ∙ ap (λ (x : Stream). cut_behind (Port (c.loop-i.i + 1)) x (slice_index_or c.args.turns.now (c.loop-i.i + 1) no_turn).done) c.index.ensures

pub returns-in-Err : goal.returns-in-Err
returns-in-Err g c start o at =
    let w = (goal.at.returns-in-Err g c).After-put_cut in
    let new = c.put_cut.new.outputs in
    let here = so_far g w start o at in
    let lead = c.in-Err.ensures start here.mid here.at in (
      cut_failed start _ new o (next g w) (rest g w) (all g w) here (subst (λ (l : Option Cut). StandBetween start new here.mid (with_cuts here.mid (option_to_list l))) (put_is g w _) lead.0),
      lead.1,
    )

pub loop-i-preserved : goal.loop-i-preserved
loop-i-preserved g c start o at =
    let w = (goal.at.loop-i-preserved g c).After-put_cut in
    let new = c.put_cut.new.outputs in
    let here = so_far g w start o at in
    one_cut start _ new o (next g w) (rest g w) (all g w) here (subst (λ (l : Option Cut). StandAt start new (with_cuts here.mid (option_to_list l))) (put_is g w _) (c.in_default.ensures start here.mid here.at))

pub returns : goal.returns
returns g c start o at =
    let ports = c.args.captures.now.ports.items in
    let many : c.len-i-end.result ≡ length ports = c.len-i-end.ensures ∙ c.args.captures.now.ports.ok.0 in
    let underlay = c.args.captures.now.underlay in
    let turns = c.args.turns.now in
    let all = cuts_at ports underlay turns in
    let there : length ports + 1 < length turns = omega (arith, c.requires.turns) in
    let now = c.loop-i.outputs in
    let new = c.put_cut-2.new.outputs in
    let here = subst (λ l. CutSoFar start now o l all) (left_last ports underlay turns c.loop-i.i (omega (arith, c.loop-i-test.false, c.loop-i.auto.i-end, many))) (c.loop-i.invariant start o at) in
    last_cut {T = Unit {0}} start now new o (option_to_list (cut_behind Underlay underlay (slice_index_or turns (length ports + 1) no_turn).done)) all c.put_cut-2.result here
    (subst (λ (t : Turn). Lead {T = Unit {0}} start new here.mid (with_cuts here.mid (option_to_list (cut_behind Underlay underlay t.done))) c.put_cut-2.result) (get_or_default turns (length ports + 1) c.index-turns-len.result no_turn there)
    (subst (λ (n : ℕ). Lead {T = Unit {0}} start new here.mid (with_cuts here.mid (option_to_list (cut_behind Underlay underlay (slice_index_or turns (n + 1) c.index-turns-len.result).done))) c.put_cut-2.result) (c.len.ensures ∙ c.args.captures.now.ports.ok.0)
    (c.put_cut-2.ensures start here.mid here.at)))
