use Rattle.std.proofs.Common.{◌≡◌, ◌<◌, ◌≤◌, ◌∷◌, [], length, ℕ, List, Option, Some, None, IfSome, get_or, refl, rules, arith}
use Rattle.std.specs.Fmt.{decimal}
use Rattle.timeline.specs.declared.source.Tap.TheVariants.{Port}
use Rattle.part_lines.specs.Sent.{sent_by}
use Rattle.part_lines.proofs.Ports.{sent_long}
use Rattle.part_lines.proofs.places.short_port.Goals as goal

long : (w : List ℕ) (o : Option ℕ) → 4 ≤ length w → get_or w 0 0 ≡ 112 → get_or w 3 0 ≡ 61 → IfSome o (λ n. (n < 100) × (decimal n ≡ get_or w 1 0 ∷ get_or w 2 0 ∷ [])) → IfSome o (λ port. sent_by w ≡ Some (Port port))
long w None size p equals h = tt
long w (Some n) size p equals h = sent_long w n (get_or w 1 0) (get_or w 2 0) size p refl refl equals (omega (arith, h.0)) h.1

pub returns-in-112-2 : goal.returns-in-112-2
returns-in-112-2 c = long c.args.word.now c.two_digits.result (omega arith) (search rules) (search rules) c.two_digits.ensures
