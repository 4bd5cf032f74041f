use Rattle.std.proofs.Common.{rules}
use Rattle.packet_layers.specs.Text.{ip6_text}
use Rattle.packet_layers.proofs.words.spelling.put_ip6_at.Goals as goal

pub returns : goal.returns
unfolding ip6_text
returns c = rw (← c.array_at.ensures, ← c.from_octets-address.ensures) (search rules)
