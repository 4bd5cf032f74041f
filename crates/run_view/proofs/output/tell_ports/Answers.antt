use Rattle.std.proofs.Common.{◌≡◌, ◌∙◌, ap, ℕ, List, [], ◌∷◌, ◌++◌, ◌+◌, codes, decimal}
use Rattle.run_view.proofs.Telling.{port_told}
use Rattle.run_view.proofs.output.tell_ports.Goals as goal

pub loop-i-preserved : goal.loop-i-preserved
loop-i-preserved g c =
    let name : c.text.result.now ≡ codes "p" ++ decimal (c.loop-i.i + 1) =
    c.text.ensures.value ∙ c.put_small.ensures.text
    ∙ ap (λ (t : List ℕ). t ++ decimal (c.loop-i.i + 1)) (c.put_octet.ensures.text ∙ ap (λ (t : List ℕ). t ++ 112 ∷ []) c.clear.ensures) in
    port_told c.args.teller.now c.loop-i.teller c.tell_interface.new.teller c.loop-i.i c.text.result.now c.loop-i.invariant name c.tell_interface.ensures
