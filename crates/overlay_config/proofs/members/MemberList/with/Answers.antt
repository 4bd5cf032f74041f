use Rattle.std.proofs.Common.{◌∙◌, sym, ap, subst, arith}
use Rattle.overlay.specs.Settings.{is_member}
use Rattle.overlay_config.specs.Members.{ArePortNumbers}
use Rattle.overlay_config.proofs.Numbers.{one_more}
use Rattle.overlay_config.proofs.members.MemberList.with.Goals as goal

pub invariant_of-result : goal.invariant_of-result
invariant_of-result c =
    subst ArePortNumbers (sym c.push.ensures)
    (one_more c.self.inside.ports c.args.port c.self.invariant c.requires.low (omega (arith, c.ranges.port.fits)) (ap (λ l. is_member l c.args.port) c.self.view_is ∙ c.requires.new))
