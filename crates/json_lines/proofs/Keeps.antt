-- Texts that begin with what stood there before.
use Rattle.std.proofs.Common.{◌≡◌, ℕ, ◌≤◌, List, ◌++◌, length, take, drop, sym, ap, ◌∙◌, arith}
use Rattle.std.proofs.Math.Seq.{take-append_seam}
use Rattle.std.proofs.lemmas.List.{length-take, take-append-drop, take-append-le}

pub keeps_put : (old text mid : List ℕ) → mid ≡ old ++ text → take (length old) mid ≡ old
keeps_put old text mid put = ap (take (length old)) put ∙ take-append_seam old text

pub keeps_on : (old mid new : List ℕ) → take (length old) mid ≡ old → take (length mid) new ≡ mid → take (length old) new ≡ old
keeps_on old mid new first next =
    let long : length old ≤ length mid = omega (arith, length-take (length old) mid, ap length first) in
    let whole : new ≡ mid ++ drop (length mid) new = sym (take-append-drop (length mid) new) ∙ ap (λ l. l ++ drop (length mid) new) next in
    ap (take (length old)) whole ∙ take-append-le (length old) mid (drop (length mid) new) long ∙ first

pub keeps_behind : (old text mid new : List ℕ) → mid ≡ old ++ text → take (length mid) new ≡ mid → take (length old) new ≡ old
keeps_behind old text mid new put next = keeps_on old mid new (keeps_put old text mid put) next

pub keeps_more : (old mid text new : List ℕ) → take (length old) mid ≡ old → new ≡ mid ++ text → take (length old) new ≡ old
keeps_more old mid text new first put = keeps_on old mid new first (keeps_put mid text new put)
