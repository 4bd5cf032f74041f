use Rattle.std.proofs.Common.{◌≤◌, ◌-◌, arith, rules}
use Rattle.pcapng_input.proofs.Advance.{body_more}
use Rattle.pcapng_input.proofs.filling.pass_body.Goals as goal
use Rattle.pcapng_input.proofs.filling.pass_body.Goals.{else-left-lt-LONGEST_BLOCK, then-left-lt-LONGEST_BLOCK}

pub body-preserved : goal.body-preserved
body-preserved g c =
    let most = c.if-left-lt-LONGEST_BLOCK.most in
    let fits : most ≤ c.body.left =
    elim c.if-left-lt-LONGEST_BLOCK.branch [
      | then-left-lt-LONGEST_BLOCK w ↦ omega (arith, w.most-is)
      | else-left-lt-LONGEST_BLOCK w ↦ omega (arith, w.most-is, w.if-left-lt-LONGEST_BLOCK.false)
    ] in
    let room : most ≤ 327680 =
    elim c.if-left-lt-LONGEST_BLOCK.branch [
      | then-left-lt-LONGEST_BLOCK w ↦ omega (arith, w.most-is, w.if-left-lt-LONGEST_BLOCK.true)
      | else-left-lt-LONGEST_BLOCK w ↦ omega (arith, w.most-is)
    ] in
    let is = c.body.invariant in
    let more = body_more c.args.gathered.now c.body.gathered c.fetch.new.self c.clear.new.self c.held.result.now c.args.count c.body.left most _
    is.part is.behind is.none is.less c.in_ok-fetch.ensures.fetched c.held.ensures.octets c.clear.ensures fits room c.in_ok-fetch.ensures.fewer in
    record {
      part = omega (arith, is.part);
      behind = more.0;
      none = more.1;
      less = more.2;
      spent = search rules;
      quiet = search rules;
    }
