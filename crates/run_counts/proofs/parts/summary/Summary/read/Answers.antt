use Rattle.std.proofs.Common.{◌≡◌, ◌∙◌, ap, sym, true, false}
use Rattle.wire.proofs.OctetsLemmas.{is_same-refl}
use Rattle.wire.specs.Octets.{is_same}
use Rattle.run_counts.proofs.Reading.{read_same, written_same}
use Rattle.run_counts.proofs.parts.summary.Summary.read.Goals as goal

pub returns-then-eq-clause-same : goal.returns-then-eq-clause-same
returns-then-eq-clause-same c = λ t can is. read_same c.args.ports c.ranges.ports.fits t _ c.args.text.now can is c.in_ok-summary.ensures

pub returns-else-eq-clause-read : goal.returns-else-eq-clause-read
returns-else-eq-clause-read c = λ t can is.
    let same = written_same c.args.ports c.ranges.ports.fits t _ c.args.text.now can is c.in_ok-summary.ensures in
    let whole : c.as_slice.result.now ≡ c.args.text.now = c.as_slice.ensures.value ∙ c.in_ok-written.ensures ∙ same in
    let no : true ≡ false =
    sym (is_same-refl c.args.text.now) ∙ sym (ap (λ l. is_same l c.args.text.now) whole) ∙ sym c.eq.ensures ∙ c.if-eq.false in
    absurd cc
