use Rattle.std.proofs.Common.{◌≡◌, ◌∷◌, [], ◌++◌, List, All, arith, rules, sym, subst, ap, ◌∙◌, append_assoc, length, map}
use Rattle.std.proofs.lemmas.List.{length_push}
use Rattle.std.proofs.lemmas.List.Elements.{All-head, All-tail}
use Rattle.std.specs.Vec.Iter.{into_iter_items}
use Rattle.pcap.specs.Block.{Block}
use Rattle.pcap.specs.Sink.{Drain}
use Rattle.program_files.specs.Held.{IsHeld}
use Rattle.program_files.proofs.Handing.{one_more_held, told_by_file}
use Rattle.program_files.proofs.outputs.Opened.emptied.Goals as goal

pub loop-file-preserved : goal.loop-file-preserved
loop-file-preserved g c =
    let at = c.loop-file in
    let contents = g.F.Write.contents in
    let sink = c.new.result in
    let file = c.in-Some-file.file in
    let items : c.push.new.self.items ≡ at.ports.items ++ (sink ∷ []) = search rules in
    let more = ap length items in
    let size = length_push at.ports.items sink in
    let taken = length_push at.yielded file in
    let behind = into_iter_items c.next.new.self in
    let steps : into_iter_items at.file-iterator ≡ file ∷ behind = c.in-Some-file.ensures.steps.0 in
    let unwritten : All (λ (b : Block). b.held ≡ []) (file ∷ behind) = subst (All (λ (b : Block). b.held ≡ [])) steps at.invariant.unwritten in
    let stands = c.empty-in-loop-file.ensures in
    let written = ap (λ (d : Drain). d.written) c.new.ensures ∙ told_by_file file (contents stands.0) (All-head (λ (b : Block). b.held ≡ []) file behind unwritten) stands.1 in
    record {
      count = omega (arith, at.invariant.count);
      all = append_assoc at.yielded (file ∷ []) behind ∙ ap (λ r. at.yielded ++ r) (sym steps) ∙ at.invariant.all;
      unwritten = All-tail (λ (b : Block). b.held ≡ []) file behind unwritten;
      held = subst (λ (ports : List Drain). All (IsHeld contents) (map (λ (d : Drain). d.written) ports)) (sym items) (one_more_held contents at.ports.items sink at.invariant.held (stands.0, written));
    }

pub loop-file-init : goal.loop-file-init
loop-file-init g c =
    let room = c.self.invariant.1 in
    record {
      count = ap length room;
      all = search rules;
      unwritten = subst (All (λ (b : Block). b.held ≡ [])) (sym c.into_iter-file-iterator.ensures.into_iter_gives.0) c.self.invariant.0.ports;
      held = subst (λ (ports : List Drain). All (IsHeld g.F.Write.contents) (map (λ (d : Drain). d.written) ports)) (sym room) (λ k d low. absurd (omega (arith, low)));
    }

pub returns-in-Ok-clause-in_files : goal.returns-in-Ok-clause-in_files
returns-in-Ok-clause-in_files g c =
    let contents = g.F.Write.contents in
    let lines = c.empty.ensures in
    let last = c.empty-2.ensures in
    record {
      ports = c.loop-file.invariant.held;
      underlay = (last.0, ap (λ (d : Drain). d.written) c.new-in-Ok.ensures ∙ told_by_file c.self.inside.underlay (contents last.0) c.self.invariant.0.underlay last.1);
      decisions = (lines.0, told_by_file c.self.inside.decisions (contents lines.0) c.self.invariant.0.decisions lines.1);
    }
