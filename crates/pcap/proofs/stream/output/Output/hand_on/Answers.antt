use Rattle.std.proofs.Common.{◌≡◌, ◌-◌, ◌∙◌, ℕ, List, rules, arith, drop, length, length-drop, subst, take}
use Rattle.std.proofs.lemmas.List.{take_all}
use Rattle.std.specs.Io.KnownBytes.{Appends}
use Rattle.pcap.proofs.Parts.{took_some, written_more}
use Rattle.pcap.proofs.stream.output.Output.hand_on.Goals as goal

pub loop-at-preserved : goal.loop-at-preserved
loop-at-preserved g c =
    let more = c.in-Ok.ensures in
    let before = c.loop-at.invariant in
    let text = c.args.octets.now in
    let part : take (length text - c.loop-at.at) (drop c.loop-at.at text) ≡ drop c.loop-at.at text =
    take_all _ _ (omega (arith, length-drop c.loop-at.at text)) in
    record {
      fits = search rules;
      appended = written_more _ _ _ text c.loop-at.at c.in-Ok.n before.appended
          (subst (λ (l : List ℕ). Appends (g.Self.Output.written c.loop-at.self) (g.Self.Output.written c.write.new.self) (take c.in-Ok.n l)) part more.appended);
      quiet = took_some _ _ c.in-Ok.n _ c.if-n-eq0.false more.failures ∙ before.quiet;
    }
