use Rattle.std.proofs.Common.{ap, length, subst, sym, take, true}
use Rattle.pcapng_input.proofs.Leads.{long_rest, part_fits, part_front, part_is, part_whole, part_within, settled_leads, settled_less, settled_sound, settled_taken, unspent}
use Rattle.pcapng_input.specs.Adapter.{Gathered}
use Rattle.pcapng_input.specs.Reading.{Context}
use Rattle.pcapng_input.specs.State.{IsPart, IsSettled}
use Rattle.pcapng_input.proofs.reading.take_block.Goals as goal

pub settle-requires-clause-part : goal.settle-requires-clause-part
settle-requires-clause-part g c =
    let is = part_is c.args.context.now.order c.order.result c.args.gathered.now.held c.held-held.result.now c.front-part.result.now c.wanted-wanted.result c.order.ensures
    c.held-held.ensures.octets c.wanted-wanted.ensures c.front-part.ensures in
    part_fits c.args.context.now.order c.args.gathered.now.held c.front-part.result.now is

pub read_more-requires-clause-part : goal.read_more-requires-clause-part
read_more-requires-clause-part g c =
    let is = part_is c.args.context.now.order c.order.result c.args.gathered.now.held c.held-held.result.now c.front-part.result.now c.wanted-wanted.result c.order.ensures
    c.held-held.ensures.octets c.wanted-wanted.ensures c.front-part.ensures in
    subst (λ (x : Context). IsPart x.order c.args.gathered.now.held) (sym c.in-Unfinished.ensures.1)
    (part_whole c.args.context.now.order c.args.gathered.now.held c.front-part.result.now is c.in-Unfinished.ensures.2)

pub returns-in_default : goal.returns-in_default
returns-in_default g c =
    let selection = c.args.selection in
    let context = c.args.context.now in
    let new = c.settle.new.context in
    let old = c.args.gathered.now in
    let after = c.go_on.new.gathered in
    let part = c.front-part.result.now in
    let octets = length part in
    let settled = c.settle.result in
    let ready = c.settle.new.ready in
    let is = part_is context.order c.order.result old.held c.held-held.result.now part c.wanted-wanted.result c.order.ensures c.held-held.ensures.octets c.wanted-wanted.ensures
    c.front-part.ensures in
    let fits = part_within context.order old.held part is in
    let made : IsSettled selection context new (take octets old.held) ready true settled =
    subst (λ t. IsSettled selection context new t ready true settled) (sym (part_front context.order old.held part is)) c.settle.ensures in
    record {
      leads = settled_leads selection context new old after octets true ready settled c.go_on.result (λ e. absurd cc)
          (λ e. absurd cc, long_rest selection context new old.held part ready settled is c.settle.ensures) fits made c.go_on.ensures.held c.go_on.ensures.state;
      taken = settled_taken selection octets settled c.go_on.result c.go_on.ensures.state;
      sound = settled_sound selection context new old after octets true ready settled c.go_on.result fits c.requires.placed made c.go_on.ensures.held c.go_on.ensures.state;
      context = tt;
      ready = tt;
      held = tt;
      kept = tt;
      spent = unspent old.supply after.supply (ap (λ (x : Gathered). x.supply) c.go_on.ensures.held);
      stops = ap (λ (x : Gathered). x.supply.failures) c.go_on.ensures.held;
      less = settled_less selection context new old after octets true ready settled c.go_on.result fits made c.in_default.not-Unfinished c.go_on.ensures.held c.go_on.ensures.state;
    }
