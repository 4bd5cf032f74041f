use Rattle.std.proofs.Common.{◌∙◌, ◌&&◌, Bool, not, ap, sym}
use Rattle.filter_db.specs.Place.{same_place}
use Rattle.filter_db.specs.declared.place.Place.TheVariants.{Local}
use Rattle.tunnel_learning.proofs.BridgeLemmas.{member-serves}
use Rattle.tunnel_learning.proofs.step.is_local_outlet.Goals as goal

pub returns-then-not-is_up : goal.returns-then-not-is_up
returns-then-not-is_up c bridge is =
    let shut = sym (member-serves bridge c.args.row.now c.args.port c.requires is) ∙ sym c.is_up.ensures ∙ c.if-not-is_up.true in
    ap (λ (s : Bool). not (not s) && not (same_place (Local c.args.port) c.args.from.now)) (sym shut)

pub returns : goal.returns
returns c bridge is =
    let open_ = sym (member-serves bridge c.args.row.now c.args.port c.requires is) ∙ sym c.is_up.ensures ∙ c.if-not-is_up.false in
    ap not c.is_same.ensures ∙ ap (λ (s : Bool). not (not s) && not (same_place (Local c.args.port) c.args.from.now)) (sym open_)
