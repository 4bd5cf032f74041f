use Rattle.std.proofs.Common.{◌∙◌, sym, ap}
use Rattle.both_ways.specs.Outlets.{Kept, kept_outlets}
use Rattle.both_ways.proofs.Sending.{by-settings, same-outlets}
use Rattle.both_ways.proofs.outlets.Outlets.places.Goals as goal

pub returns-clause-same : goal.returns-clause-same
returns-clause-same c = λ v.
    let k = c.args.self.now in
    let P = c.args.ports.now in
    let is = c.copied.ensures ∙ c.sends_at-places.ensures ∙ sym (by-settings k P c.args.vid (sym c.is_kept.ensures ∙ c.if-is_kept.false)) in
    ap (λ (x : Kept). kept_outlets x P v) c.keep.ensures.kept ∙ same-outlets k P c.args.vid c.copied.result is c.keep.ensures.eras c.keep.ensures.places v
