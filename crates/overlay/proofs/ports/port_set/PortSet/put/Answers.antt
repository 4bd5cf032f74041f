use Rattle.std.proofs.Common.{◌≡◌, ◌∙◌, ◌+◌, drop, get_or, refl, sym, ap}
use Rattle.std.proofs.lemmas.List.{drop_more}
use Rattle.std.specs.FinMap.{insert}
use Rattle.overlay.specs.Ports.{Ports, has_segment, with_each}
use Rattle.overlay.specs.PortsRules.{with_members, members_or_none}
use Rattle.overlay.proofs.PortsLemmas.{members-with, with-with, has-with, with-own}
use Rattle.overlay.proofs.ports.port_set.PortSet.put.Goals as goal

pub loop-port-init : goal.loop-port-init
loop-port-init c = (sym (with-own c.args.self.now c.args.vid c.requires.there), refl)

pub set_member-requires-clause-there : goal.set_member-requires-clause-there
set_member-requires-clause-there c =
    ap (λ (s : Ports). has_segment s c.args.vid) c.loop-port.invariant.0 ∙ has-with c.args.self.now c.args.vid (members_or_none c.loop-port.self c.args.vid)

pub loop-port-preserved : goal.loop-port-preserved
loop-port-preserved c =
    let s = c.args.self.now in
    let vid = c.args.vid in
    let egress = c.args.egress in
    let i = c.loop-port.port-index in
    let port = get_or c.args.ports.now i 0 in
    let m = members_or_none c.loop-port.self vid in
    let written = c.set_member.ensures in
    let members : members_or_none c.set_member.new.self vid ≡ insert m port egress = ap (λ (t : Ports). members_or_none t vid) written ∙ members-with c.loop-port.self vid (insert m port egress) in (
      written ∙ ap (λ (t : Ports). with_members t vid (insert m port egress)) c.loop-port.invariant.0 ∙ with-with s vid m (insert m port egress) ∙ ap (with_members s vid) (sym members),
      ap (with_each (drop (i + 1) c.args.ports.now) egress) members
          ∙ ap (λ ports. with_each ports egress m) (sym (drop_more c.args.ports.now i 0 c.loop-port-test.true))
          ∙ c.loop-port.invariant.1,
    )
