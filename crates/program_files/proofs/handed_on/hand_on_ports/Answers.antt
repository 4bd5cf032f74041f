use Rattle.std.proofs.Common.{◌≡◌, ◌∷◌, ℕ, List, Option, arith, rules, is_ok, ap, subst, length}
use Rattle.std.specs.Io.KnownBytes.{Keeps}
use Rattle.std.specs.Iterator.Adapters.{enumerate_source}
use Rattle.std.specs.Vec.Iter.{into_iter_items}
use Rattle.program_files.proofs.Handing.{none, one_fewer, one_more, whole}
use Rattle.program_files.proofs.handed_on.hand_on_ports.Goals as goal

pub loop-index-init : goal.loop-index-init
loop-index-init g c = (
  none g.F.Write.contents c.args.ports.items (into_iter_items (enumerate_source c.into_iter-index-iterator.result)) c.new-files.result.items (search rules) c.new-files.ensures.items,
  search rules,
)

pub loop-index-preserved-then-hand_on : goal.loop-index-preserved-then-hand_on
loop-index-preserved-then-hand_on g c =
    let at = c.loop-index in
    let port = c.in-Some.port in
    let file = c.hand_on.new.written in
    let behind = into_iter_items (enumerate_source c.next.new.self) in
    let keeps = subst (λ (old : Option (List ℕ)). Keeps old file.written) c.into_inner-file.ensures.written (c.hand_on.ensures.kept c.if-hand_on.true) in
    let steps : into_iter_items (enumerate_source at.index-iterator) ≡ port ∷ behind = c.in-Some.ensures.steps.0.0 in
    let gone = c.in-Some.ensures.steps.0.1 in
    let short = ap length steps in
    let was = at.invariant.1 in (
      one_more g.F.Write.contents c.args.ports.items at.yielded (into_iter_items (enumerate_source at.index-iterator)) behind at.files.items c.push.new.self.items c.in-Some.index port file (is_ok c.push.result)
          steps (c.hand_on.ensures.all c.if-hand_on.true) c.hand_on.ensures.in_file keeps c.push.ensures.items at.invariant.0,
      omega (arith, was, gone, short),
    )

pub loop-index-preserved-then-hand_on-2 : goal.loop-index-preserved-then-hand_on-2
loop-index-preserved-then-hand_on-2 g c =
    let at = c.loop-index in
    let port = c.in-Some.port in
    let file = c.hand_on.new.written in
    let behind = into_iter_items (enumerate_source c.next.new.self) in
    let keeps = subst (λ (old : Option (List ℕ)). Keeps old file.written) c.into_inner-file.ensures.written (c.hand_on.ensures.kept c.if-hand_on.true) in
    let steps : into_iter_items (enumerate_source at.index-iterator) ≡ port ∷ behind = c.in-Some.ensures.steps.0.0 in
    let gone = c.in-Some.ensures.steps.0.1 in
    let short = ap length steps in
    let was = at.invariant.1 in (
      one_more g.F.Write.contents c.args.ports.items at.yielded (into_iter_items (enumerate_source at.index-iterator)) behind at.files.items c.push.new.self.items c.in-Some.index port file (is_ok c.push.result)
          steps (c.hand_on.ensures.all c.if-hand_on.true) c.hand_on.ensures.in_file keeps c.push.ensures.items at.invariant.0,
      omega (arith, was, gone, short),
    )

pub loop-index-preserved : goal.loop-index-preserved
loop-index-preserved g c =
    let at = c.loop-index in
    let port = c.in-Some.port in
    let behind = into_iter_items (enumerate_source c.next.new.self) in
    let steps : into_iter_items (enumerate_source at.index-iterator) ≡ port ∷ behind = c.in-Some.ensures.steps.0.0 in
    let gone = c.in-Some.ensures.steps.0.1 in
    let short = ap length steps in
    let was = at.invariant.1 in (
      one_fewer g.F.Write.contents c.args.ports.items at.yielded (into_iter_items (enumerate_source at.index-iterator)) behind at.files.items c.in-Some.index port steps at.invariant.0,
      omega (arith, was, gone, short),
    )

pub returns-then-len-count-clause-all : goal.returns-then-len-count-clause-all
returns-then-len-count-clause-all g c = c.loop-index.invariant.0.empty

pub returns-then-len-count-clause-kept : goal.returns-then-len-count-clause-kept
returns-then-len-count-clause-kept g c =
    let at = c.loop-index in
    let size : length (into_iter_items (enumerate_source at.index-iterator)) ≡ 0 = omega (arith, at.invariant.1, c.in-None.ensures.steps.0.0) in
    whole g.F.Write.contents c.args.ports.items _ _ at.files.items size (search rules) at.invariant.0

pub returns-then-len-count-clause-in_files : goal.returns-then-len-count-clause-in_files
returns-then-len-count-clause-in_files g c = c.loop-index.invariant.0.inside
