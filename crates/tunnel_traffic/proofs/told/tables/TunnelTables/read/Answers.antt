use Rattle.std.proofs.Common.{◌≡◌, ◌∙◌, ap, sym, true, false}
use Rattle.wire.proofs.OctetsLemmas.{is_same-refl}
use Rattle.wire.specs.Octets.{is_same}
use Rattle.tunnel_traffic.proofs.Reading.{read_back}
use Rattle.tunnel_traffic.specs.Lines.{tunnels_text}
use Rattle.tunnel_traffic.specs.Rows.{rows_of, told_by}
use Rattle.tunnel_traffic.specs.Tables.{no_tunnels}
use Rattle.tunnel_traffic.proofs.told.tables.TunnelTables.read.Goals as goal

pub returns-then-eq-clause-same : goal.returns-then-eq-clause-same
returns-then-eq-clause-same c = λ t can is. c.in_ok-tables.ensures ∙ ap (λ text. told_by no_tunnels (rows_of text)) is ∙ read_back t can

pub returns-else-eq-clause-read : goal.returns-else-eq-clause-read
returns-else-eq-clause-read c = λ t can is.
    let same = c.in_ok-tables.ensures ∙ ap (λ text. told_by no_tunnels (rows_of text)) is ∙ read_back t can in
    let whole : c.as_slice.result.now ≡ c.args.text.now = c.as_slice.ensures.value ∙ c.in_ok-written.ensures ∙ ap tunnels_text same ∙ sym is in
    let no : true ≡ false =
    sym (is_same-refl c.args.text.now) ∙ sym (ap (λ l. is_same l c.args.text.now) whole) ∙ sym c.eq.ensures ∙ c.if-eq.false in
    absurd cc
