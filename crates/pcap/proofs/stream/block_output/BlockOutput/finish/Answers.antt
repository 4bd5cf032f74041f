use Rattle.std.proofs.Common.{◌≡◌, rules, drop, subst, sym, take, List, ℕ}
use Rattle.std.specs.Io.KnownBytes.{Appends, Keeps, append_known}
use Rattle.pcap.specs.Block.{Block, told}
use Rattle.pcap.specs.Room.{Room}
use Rattle.pcap.proofs.Blocks.{handed_on, rest_of}
use Rattle.pcap.proofs.stream.block_output.BlockOutput.finish.Goals as goal

pub returns-clause-told : goal.returns-clause-told
returns-clause-told g c =
    let old = g.W.Output.written c.self.inside.output in
    let new = g.W.Output.written c.hand_on-handed.new.self in
    let held : List ℕ = c.self.inside.block.held in
    let taken : Appends old new (take c.hand_on-handed.result.0 held) = search rules in
    subst (λ (b : Block). Keeps (told b) (append_known new c.forget.new.self.held)) c.self.view_is
    (subst (λ (r : Room). Keeps (append_known old held) (append_known new r.held)) (sym c.forget.ensures)
    (handed_on old new held c.hand_on-handed.result.0 taken))

pub returns-clause-rest : goal.returns-clause-rest
returns-clause-rest g c =
    let same : c.forget.new.self.held ≡ drop c.hand_on-handed.result.0 c.args.self.now.held = search rules in
    rest_of c.hand_on-handed.result.1 c.args.self.now.held c.forget.new.self.held c.hand_on-handed.result.0 same
