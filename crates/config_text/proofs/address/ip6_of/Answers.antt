use Rattle.std.proofs.Common.{rules, ◌∙◌, sym, ap, option_map}
use Rattle.std.specs.Net.Addr.{ipv6_octets}
use Rattle.config_text.proofs.ColonHex.{ip6_parsed, ip6_dot, no_dot}
use Rattle.config_text.proofs.address.ip6_of.Goals as goal

pub returns-then-contains : goal.returns-then-contains
returns-then-contains c = sym (ip6_dot c.args.text.now (search rules))

pub returns-in_err-addr : goal.returns-in_err-addr
returns-in_err-addr c =
    let parsed = ip6_parsed c.args.text.now c.parse.result (no_dot c.args.text.now (search rules)) c.parse.ensures.value in
    rw c.from_residual.ensures (ap (option_map ipv6_octets) (sym c.in_err-addr.was ∙ c.ok.ensures.value) ∙ parsed)

pub returns : goal.returns
returns c =
    let parsed = ip6_parsed c.args.text.now c.parse.result (no_dot c.args.text.now (search rules)) c.parse.ensures.value in
    rw c.octets.ensures (ap (option_map ipv6_octets) (sym c.in_ok-addr.was ∙ c.ok.ensures.value) ∙ parsed)
