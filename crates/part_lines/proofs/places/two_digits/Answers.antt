use Rattle.std.proofs.Common.{◌∙◌, ◌∷◌, [], ap₂, sym, arith}
use Rattle.part_lines.proofs.Ports.{two_digits}
use Rattle.part_lines.proofs.places.two_digits.Goals as goal

pub returns : goal.returns
returns c =
    let ten = c.in-Some.ensures in
    let one = c.in-Some-digit.ensures in (
      omega (arith, ten.0, one.0),
      two_digits c.in-Some.ten c.in-Some-digit.one (omega arith) ten.0 one.0 ∙ ap₂ (λ a b. a ∷ b ∷ []) (sym ten.1) (sym one.1),
    )
