use Rattle.std.proofs.Common.{◌∙◌, ap, sym, subst, max, option_map, Some, None, IfSome}
use Rattle.pcap.specs.Record.{IsWithinLimits, Record}
use Rattle.stream_run.proofs.Fetching.{fetch_done, fetch_failed}
use Rattle.stream_run.proofs.fetch.fetch.Goals as goal

pub returns-in-Err-clause-fetched : goal.returns-in-Err-clause-fetched
returns-in-Err-clause-fetched g c tap done =
    fetch_failed c.args.source.now c.fill.new.self tap done c.args.latest c.in-Err.fault c.requires c.in-Err.ensures.filled c.in-Err.ensures.answer

pub returns-in-Some-clause-fetched : goal.returns-in-Some-clause-fetched
returns-in-Some-clause-fetched g c tap done =
    let f = λ (r : Record). max r.moment c.args.latest in
    fetch_done c.args.source.now c.fill.new.self tap done c.args.latest (Some c.max.result) c.requires c.in_default.ensures.filled c.in_default.ensures.answer
    (subst (λ r. IfSome r IsWithinLimits) c.head.ensures.record c.head.ensures.limits) (ap Some (c.max.ensures ∙ ap f c.record.view_is) ∙ ap (option_map f) (sym c.in-Some.is ∙ c.head.ensures.record))

pub returns-in-None-clause-fetched : goal.returns-in-None-clause-fetched
returns-in-None-clause-fetched g c tap done =
    let f = λ (r : Record). max r.moment c.args.latest in
    fetch_done c.args.source.now c.fill.new.self tap done c.args.latest None c.requires c.in_default.ensures.filled c.in_default.ensures.answer
    (subst (λ r. IfSome r IsWithinLimits) c.head.ensures.record c.head.ensures.limits) (ap (option_map f) (sym c.in-None.is ∙ c.head.ensures.record))
