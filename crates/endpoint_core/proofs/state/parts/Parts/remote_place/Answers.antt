use Rattle.std.proofs.Common.{◌∙◌, sym, ap, length}
use Rattle.std.proofs.lemmas.Result.{err_from_is_err_and}
use Rattle.endpoint_core.specs.Settings.{segment_at}
use Rattle.endpoint_core.specs.State.{settings_of}
use Rattle.wire.specs.First.{first}
use Rattle.overlay.specs.declared.flood.own.Own.{Own}
use Rattle.endpoint_core.specs.Change.{addr_faults}
use Rattle.overlay.specs.UnderlaySettings.{own}
use Rattle.endpoint_core.proofs.TargetLemmas.{target-named}
use Rattle.endpoint_core.proofs.state.parts.Parts.remote_place.Goals as goal

pub returns-in_err-check_addr-clause-fault : goal.returns-in_err-check_addr-clause-fault
returns-in_err-check_addr-clause-fault g c =
    let parts = c.args.self.now in
    let p = err_from_is_err_and c.from_residual-in_err-check_addr.result c.from_residual-in_err-check_addr.ensures.1 in
    rw (p.1, p.2) (sym (target-named (own parts.under.underlay) (length parts.ports.ports) (segment_at (settings_of g.T.Tables.segments g.T.Tables.pool parts) c.args.vid) c.args.tunnel c.in_ok-kind.kind c.args.addr c.in_ok-kind.ensures.kind ∙ ap (λ (o : Own). first (addr_faults o c.args.addr)) (sym c.own.ensures) ∙ sym c.in_err-check_addr.ensures))
