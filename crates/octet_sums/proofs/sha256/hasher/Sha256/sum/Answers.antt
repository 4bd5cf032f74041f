use Rattle.std.proofs.Common.{List, ℕ, length, refl, ap, ◌∙◌}
use Rattle.sha2.specs.Sha256.{digest_bytes, sha256}
use Rattle.octet_sums.proofs.Absorbing.{ended, of_total, padding_is}
use Rattle.octet_sums.proofs.sha256.hasher.Sha256.sum.Goals as goal

pub returns : goal.returns
unfolding sha256
returns c = λ m held.
    let text = padding_is (length m) c.args.self.count _ _ _ (of_total c.args.self m held) refl (c.copy_from_slice.ensures.after ∙ c.to_be_bytes.ensures) in
    c.octets_of.ensures ∙ ap (λ (h : List ℕ). digest_bytes h 8) (ended c.absorb.new.self m _ (c.absorb.ensures m held) text)
