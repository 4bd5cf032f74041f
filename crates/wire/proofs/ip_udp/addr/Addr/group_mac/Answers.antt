use Rattle.std.proofs.Common.{rules, arith, ◌≡◌, ℕ, List, ◌∷◌, length, drop, sym, ap, ◌∙◌}
use Rattle.std.proofs.lemmas.List.{drop_all}
use Rattle.wire.specs.Octets.{octet}
use Rattle.wire.proofs.OctetsLemmas.{cell}
use Rattle.wire.specs.Addr.{group_mac}
use Rattle.wire.proofs.ip_udp.addr.Addr.group_mac.Goals as goal

pub returns-in-V6 : goal.returns-in-V6
returns-in-V6 c =
    let b = c.in-V6.octets in
    let long : length b ≡ 16 = search rules in
    let tail : drop 12 b ≡ octet 12 b ∷ octet 13 b ∷ octet 14 b ∷ octet 15 b ∷ drop 16 b =
    cell 12 b (omega arith) ∙ ap (λ (r : List ℕ). octet 12 b ∷ r) (cell 13 b (omega arith)
    ∙ ap (λ (r : List ℕ). octet 13 b ∷ r) (cell 14 b (omega arith)
    ∙ ap (λ (r : List ℕ). octet 14 b ∷ r) (cell 15 b (omega arith)))) in
    let whole = tail ∙ ap (λ (r : List ℕ). octet 12 b ∷ octet 13 b ∷ octet 14 b ∷ octet 15 b ∷ r) (drop_all 16 b (omega arith)) in
    ap (λ (r : List ℕ). 0x33 ∷ 0x33 ∷ r) (sym whole) ∙ ap group_mac (sym c.in-V6.is)
