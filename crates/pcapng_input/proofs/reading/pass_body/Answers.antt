use Rattle.std.proofs.Common.{◌≤◌, ◌-◌, ap, arith, length}
use Rattle.pcapng_input.proofs.Leads.{body_passed}
use Rattle.pcapng_input.proofs.reading.pass_body.Goals as goal
use Rattle.pcapng_input.proofs.reading.pass_body.Goals.{else-left-lt-LONGEST_BLOCK, then-left-lt-LONGEST_BLOCK}

pub returns-clause-leads : goal.returns-clause-leads
returns-clause-leads g c =
    let fetched = c.in_ok-is_more.ensures.fetched in
    let fits : length c.fetch.new.self.held ≤ c.args.left =
    elim c.if-left-lt-LONGEST_BLOCK.branch [
      | then-left-lt-LONGEST_BLOCK w ↦ omega (arith, w.wanted-is, fetched.fits)
      | else-left-lt-LONGEST_BLOCK w ↦ omega (arith, w.wanted-is, w.if-left-lt-LONGEST_BLOCK.false, fetched.fits)
    ] in
    λ selection.
    body_passed selection c.args.context.now c.args.gathered.now c.fetch.new.self c.clear.new.self _ c.in_ok-is_more.is_more c.args.ready.now c.args.order c.args.size c.args.left _
    fetched c.clear.ensures c.requires.empty fits (ap (λ t. c.args.left - length t) c.held.ensures.octets)
