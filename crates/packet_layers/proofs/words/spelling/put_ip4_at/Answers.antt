use Rattle.std.proofs.Common.{rules}
use Rattle.packet_layers.specs.Text.{ip4_text}
use Rattle.packet_layers.proofs.words.spelling.put_ip4_at.Goals as goal

pub returns : goal.returns
unfolding ip4_text
returns c = rw (← c.array_at.ensures, ← c.from_octets-address.ensures) (search rules)
