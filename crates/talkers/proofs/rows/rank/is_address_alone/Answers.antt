use Rattle.std.proofs.Common.{rules, ◌∙◌, ap, sym}
use Rattle.wire.specs.declared.ip_udp.addr.Addr.TheVariants.{V6}
use Rattle.talkers.specs.Talk.{address_number}
use Rattle.talkers.proofs.Ranks.{octets_same}
use Rattle.talkers.proofs.rows.rank.is_address_alone.Goals as goal

pub returns-in-V6-V6 : goal.returns-in-V6-V6
returns-in-V6-V6 c =
    λ family same.
    c.in-V6-V6.is-0
    ∙ ap V6 (octets_same 16 c.in-V6-V6.octets c.in-V6-V6.others (search rules) (search rules) c.octets_fit-in-V6-V6.ensures c.octets_fit-in-V6-V6-2.ensures
    (sym (ap address_number c.in-V6-V6.is-0) ∙ same ∙ ap address_number c.in-V6-V6.is-1))
    ∙ sym c.in-V6-V6.is-1
