-- Whoever counts, from one step to the next.
use Rattle.std.proofs.Common.{◌≡◌, subst, sym, Option, Some, None}
use Rattle.run_counts.specs.Keeping.{Keeping}
use Rattle.run_reports.specs.Onlooker.{Counting}

pub counting_more : (P Q : Keeping → Keeping → Type 0) (old mid : Option Keeping) (x new : Keeping) → mid ≡ Some x → Counting P old mid → ((k : Keeping) → P k x → Q k new) → Counting Q old (Some new)
counting_more P Q (Some k) mid x new is h f = f k (subst (λ (m : Option Keeping). Counting P (Some k) m) is h)
counting_more P Q None mid x new is h f = absurd (subst (λ (m : Option Keeping). Counting P None m) is h)

pub counting_one : (P : Keeping → Keeping → Type 0) (old : Option Keeping) (x new : Keeping) → old ≡ Some x → P x new → Counting P old (Some new)
counting_one P old x new is h = subst (λ (m : Option Keeping). Counting P m (Some new)) (sym is) h
