use Rattle.std.proofs.Common.{◌≡◌, [], refl, sym, ap, arith, length}
use Rattle.record_match.specs.Window.{Window}
use Rattle.record_match.proofs.comparison.Comparison.new.Goals as goal

pub returns-clause-told : goal.returns-clause-told
returns-clause-told c =
    let e : c.in_ok-window.window ≡ record { within = c.args.within; records = 0; octets = 0; held = [] } = c.in_ok-window.ensures in
    record { over = []; whole = sym (ap (λ (w : Window). w.held) e); are_over = tt; sent_is = refl; received_is = refl; cut_is = (refl, refl); records_is = ap (λ (w : Window). w.records) e; octets_is = ap (λ (w : Window). w.octets) e; gone_is = omega (arith, ap (λ (w : Window). w.records) e, ap (λ (w : Window). length w.held) e); alone_is = refl; told_is = refl; both_is = refl }
