use Rattle.std.proofs.Common.{◌∙◌, ap, rules, take}
use Rattle.pcap.proofs.Peeking.{head_read}
use Rattle.pcap.proofs.kind.peeked.PeekedInput.read.Goals as goal

pub returns-then-not-is_empty-clause-taken : goal.returns-then-not-is_empty-clause-taken
returns-then-not-is_empty-clause-taken g c = (
  head_read _ (take c.args.self.now.head.length c.args.self.now.head.octets) c.copy_front-n.new.room c.args.self.now.at c.copy_front-n.result
      (c.copy_front-n.ensures.copied ∙ ap (take c.copy_front-n.result) c.behind-ahead.ensures),
  λ none room. absurd (search rules),
)
