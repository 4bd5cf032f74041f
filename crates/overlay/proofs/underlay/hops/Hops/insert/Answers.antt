use Rattle.std.proofs.Common.{arith, []}
use Rattle.std.specs.Cmp.Lexicographic.{nat_list_cmp_total}
use Rattle.wire.specs.Addr.{address}
use Rattle.overlay.proofs.HopsLemmas.{up_to, hop_put}
use Rattle.overlay.proofs.SearchLemmas.{get_at}
use Rattle.overlay.proofs.underlay.hops.Hops.insert.Goals as goal

pub insert-requires : goal.insert-requires
insert-requires c = omega (arith, c.self.inside.exceptions.ok.0, up_to c.self.inside.exceptions.items c.args.self.now c.self.invariant c.self.view_is c.in-Err.place c.in-Err.ensures.0)

pub invariant_of-self : goal.invariant_of-self
invariant_of-self c = (hop_put c.self.inside.exceptions.items c.args.self.now c.self.invariant c.self.view_is c.insert.new.self.items c.in-Err.place (record { addr = c.args.addr; mac = c.args.mac }) c.in-Err.ensures c.in_ok-insert.ensures.items).0

pub returns-in_ok-insert-clause-added : goal.returns-in_ok-insert-clause-added
returns-in_ok-insert-clause-added c = (hop_put c.self.inside.exceptions.items c.args.self.now c.self.invariant c.self.view_is c.insert.new.self.items c.in-Err.place (record { addr = c.args.addr; mac = c.args.mac }) c.in-Err.ensures c.in_ok-insert.ensures.items).1

-- it is there
pub returns-in_default-clause-added : goal.returns-in_default-clause-added
returns-in_default-clause-added c = absurd (grind (arith, get_at nat_list_cmp_total c.args.self.now (address c.args.addr) c.in_default.field-0 ([], []) c.in_default.ensures, c.requires))
