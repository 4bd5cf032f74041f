use Rattle.std.proofs.Common.{◌≡◌, rules, length}
use Rattle.packet_layers.proofs.TextLemmas.{mac_six}
use Rattle.packet_layers.proofs.words.lines.Lines.put_mac.Goals as goal

pub returns-clause-text : goal.returns-clause-text
returns-clause-text c =
    let long : length c.args.mac ≡ 6 = search rules in
    rw (mac_six c.args.mac long) (search rules)
