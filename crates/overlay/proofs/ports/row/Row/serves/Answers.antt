use Rattle.std.proofs.Common.{◌∙◌, ◌≤◌, ◌&&◌, length, sym, ap, arith}
use Rattle.std.specs.Prelude.{is_some}
use Rattle.std.proofs.lemmas.Bool.{and_right}
use Rattle.overlay.specs.Row.{is_member, is_up}
use Rattle.overlay.proofs.SegmentLemmas.{member-egress}
use Rattle.overlay.proofs.RowLemmas.{member-in, member-none, row-length}
use Rattle.overlay.proofs.ports.row.Row.serves.Goals as goal

pub returns-then-not-stands : goal.returns-then-not-stands
returns-then-not-stands c =
    sym (and_right (is_up c.args.self.now c.args.port) (is_member c.args.self.now c.args.port)
    (member-none c.self.inside.ports.now c.self.inside.words.now c.self.inside.vid c.args.self.now c.self.view_is c.args.port (sym c.stands.ensures ∙ c.if-not-stands.true)))

pub returns : goal.returns
returns c =
    let ports = c.self.inside.ports.now in
    let words = c.self.inside.words.now in
    let vid = c.self.inside.vid in
    let same = row-length ports words vid c.args.self.now c.self.view_is in
    let high : c.args.port ≤ length ports = omega (arith, same, c.requires.high) in
    let member = member-in ports words vid c.args.self.now c.self.view_is c.args.port (sym c.stands.ensures ∙ c.if-not-stands.false) c.requires.low high in
    c.is_some.ensures ∙ ap is_some c.egress.ensures ∙ member-egress words vid c.args.port ∙ sym member
    ∙ sym (ap (λ up. up && is_member c.args.self.now c.args.port) (sym c.is_up.ensures ∙ c.if-not-is_up.false))
