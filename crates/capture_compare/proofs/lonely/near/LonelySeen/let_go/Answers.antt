use Rattle.std.proofs.Common.{◌≡◌, ◌<◌, ap, length, arith}
use Rattle.capture_compare.specs.Near.{Alone}
use Rattle.capture_compare.proofs.Holding.{held-less}
use Rattle.capture_compare.proofs.lonely.near.LonelySeen.let_go.Goals as goal

pub overflow_sub-self : goal.overflow_sub-self
overflow_sub-self c =
    let inside : c.args.i < length c.self.inside.held.items = omega (arith, c.requires, ap (length {A = Alone}) c.self.view_is) in
    let n : c.len.result ≡ length c.in-Some.held.seen.octets = omega (arith, c.len.ensures, c.held.inside.octets.ok.0, ap (λ (a : Alone). length a.seen.octets) c.held.view_is) in
    let sum = held-less c.self.inside.held.items c.remove.new.self.items c.args.i c.in-Some.held c.self.inside.octets c.len.result c.self.invariant.0 inside c.in-Some.ensures.value c.in-Some.ensures.items n in
    omega (arith, sum)

pub invariant_of-self-2 : goal.invariant_of-self-2
invariant_of-self-2 c =
    let inside : c.args.i < length c.self.inside.held.items = omega (arith, c.requires, ap (length {A = Alone}) c.self.view_is) in
    let n : c.len.result ≡ length c.in-Some.held.seen.octets = omega (arith, c.len.ensures, c.held.inside.octets.ok.0, ap (λ (a : Alone). length a.seen.octets) c.held.view_is) in
    let sum = held-less c.self.inside.held.items c.remove.new.self.items c.args.i c.in-Some.held c.self.inside.octets c.len.result c.self.invariant.0 inside c.in-Some.ensures.value c.in-Some.ensures.items n in
    (omega (arith, sum), omega (arith, sum, c.self.invariant.1))
