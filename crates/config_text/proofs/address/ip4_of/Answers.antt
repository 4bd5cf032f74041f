use Rattle.std.proofs.Common.{◌∙◌, sym, ap, option_map}
use Rattle.std.specs.Net.Addr.{ipv4_octets}
use Rattle.config_text.proofs.Dotted.{ip4_parsed}
use Rattle.config_text.proofs.address.ip4_of.Goals as goal

pub returns-in_err-addr : goal.returns-in_err-addr
returns-in_err-addr c =
    rw c.from_residual.ensures (ap (option_map ipv4_octets) (sym c.in_err-addr.was ∙ c.ok.ensures.value) ∙ ip4_parsed c.args.text.now c.parse.result c.parse.ensures.value)

pub returns : goal.returns
returns c =
    rw c.octets.ensures (ap (option_map ipv4_octets) (sym c.in_ok-addr.was ∙ c.ok.ensures.value) ∙ ip4_parsed c.args.text.now c.parse.result c.parse.ensures.value)
