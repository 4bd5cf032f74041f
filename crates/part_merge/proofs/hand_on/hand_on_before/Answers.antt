use Rattle.std.proofs.KnownBytes.{Keeps-refl}
use Rattle.std.proofs.lemmas.Result.{on_ok_weaker}
use Rattle.part_merge.proofs.Waits.{nothing_handed}
use Rattle.part_merge.proofs.hand_on.hand_on_before.Goals as goal

pub returns-then-waits-clause-out : goal.returns-then-waits-clause-out
returns-then-waits-clause-out g c = on_ok_weaker c.hand_on_all.result (λ out is. out) c.hand_on_all.ensures.out

pub returns-clause-kept : goal.returns-clause-kept
returns-clause-kept g c = (nothing_handed c.args.port_sinks.now c.args.underlay_sink.now, Keeps-refl (g.W.Output.written c.args.decisions.now))
