use Rattle.std.proofs.Common.{◌≡◌, ◌∙◌, [], ap, arith, false, length, refl, subst, sym, take}
use Rattle.std.proofs.lemmas.List.{drop_all, take_all}
use Rattle.pcapng_input.proofs.Giving.{KeepsTold-trans}
use Rattle.pcapng_input.proofs.Leads.{block_more, settled_leads}
use Rattle.pcapng_input.specs.Adapted.{Within}
use Rattle.pcapng_input.specs.Adapter.{Adapter, told}
use Rattle.pcapng_input.specs.State.{IsSettled, stand_of}
use Rattle.pcapng_input.proofs.reading.read_more.Goals as goal

pub returns-clause-leads : goal.returns-clause-leads
returns-clause-leads g c =
    let selection = c.args.selection in
    let context = c.args.context.now in
    let new = c.settle-settled.new.context in
    let old = c.args.gathered.now in
    let mid = c.fetch.new.self in
    let after = c.go_on.new.gathered in
    let held = c.held-held.result.now in
    let octets = length held in
    let same = c.held-held.ensures.octets in
    let settled = c.settle-settled.result in
    let ready = c.settle-settled.new.ready in
    let fetched = c.in_ok-is_more.ensures.fetched in
    let size = ap length same in
    let front : held ≡ take octets mid.held = same ∙ sym (take_all octets mid.held (omega (arith, size))) in
    let before : Adapter = record { selection = selection; ready = []; stand = Within context; below = old } in
    let between : Adapter = record { selection = selection; ready = []; stand = Within context; below = mid } in
    let behind : Adapter = record { selection = selection; ready = ready; stand = stand_of c.go_on.result new; below = after } in
    KeepsTold-trans (told before) (told between) (told behind)
    (block_more selection context old mid c.if-wanted-lt-AHEAD.most c.in_ok-is_more.is_more [] fetched refl)
    (settled_leads selection context new mid after octets false ready settled c.go_on.result (λ e. (fetched.end c.if-is_more.false).1)
    (λ e. drop_all octets mid.held (omega (arith, size)), λ order size e. drop_all octets mid.held (omega (arith, ap length same)))
    (omega (arith, size)) (subst (λ t. IsSettled selection context new t ready false settled) front c.settle-settled.ensures) c.go_on.ensures.held c.go_on.ensures.state)
