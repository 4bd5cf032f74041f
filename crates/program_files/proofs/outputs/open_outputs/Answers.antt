use Rattle.std.proofs.Common.{◌≡◌, ◌∷◌, [], ◌++◌, All, rules, subst, sym}
use Rattle.std.proofs.lemmas.List.Elements.{All-push}
use Rattle.pcap.specs.Block.{Block}
use Rattle.program_files.proofs.outputs.open_outputs.Goals as goal

pub loop-index-preserved : goal.loop-index-preserved
loop-index-preserved g c =
    let at = c.loop-index in
    let items : c.push.new.self.items ≡ at.ports.items ++ (c.in-Ok.file ∷ []) = search rules in
    record {
      count = search rules;
      unwritten = subst (All (λ (b : Block). b.held ≡ [])) (sym items) (All-push (λ (b : Block). b.held ≡ []) at.ports.items c.in-Ok.file at.invariant.unwritten c.in-Ok.ensures);
    }
