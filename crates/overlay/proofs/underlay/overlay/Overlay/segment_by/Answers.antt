use Rattle.std.proofs.Common.{◌∙◌, sym, ap}
use Rattle.std.specs.ControlFlow.{continue_value}
use Rattle.std.specs.Option.{option_copied}
use Rattle.std.specs.FinMap.{get}
use Rattle.overlay.specs.Overlay.{Overlay}
use Rattle.overlay.proofs.IndexLemmas.{found_by, none_by, found_somewhere}
use Rattle.overlay.proofs.underlay.overlay.Overlay.segment_by.Goals as goal

pub returns-in_err-vid : goal.returns-in_err-vid
returns-in_err-vid c = rw c.from_residual.ensures (sym (none_by c.args.kind c.args.self.now.segments c.index.result.now.vids c.args.vni c.index.ensures (sym c.get.ensures ∙ (c.branch-vid.ensures ∙ ap continue_value c.in_err-vid.is))))

pub returns : goal.returns
returns c =
    let there = sym (ap (λ (S : Overlay). get S.segments c.in_ok-vid.vid) c.self.view_is) ∙ sym c.get-2.ensures ∙ ap option_copied (c.branch-get.ensures ∙ ap continue_value c.in_ok-get.is) in
    sym (found_by c.args.kind c.args.self.now.segments c.index.result.now.vids c.args.vni c.in_ok-vid.vid c.in_ok-get.field-0.now c.index.ensures (sym c.get.ensures ∙ (c.branch-vid.ensures ∙ ap continue_value c.in_ok-vid.is)) there)

-- the index leads to a segment
pub returns-in_err-get : goal.returns-in_err-get
returns-in_err-get c =
    let absent = sym (ap (λ (S : Overlay). get S.segments c.in_ok-vid.vid) c.self.view_is) ∙ sym c.get-2.ensures ∙ ap option_copied (c.branch-get.ensures ∙ ap continue_value c.in_err-get.is) in
    absurd (found_somewhere c.args.kind c.args.self.now.segments c.index.result.now.vids c.args.vni c.in_ok-vid.vid c.index.ensures (sym c.get.ensures ∙ (c.branch-vid.ensures ∙ ap continue_value c.in_ok-vid.is)) absent)
