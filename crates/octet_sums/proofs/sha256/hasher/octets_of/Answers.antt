use Rattle.std.proofs.Common.{rules, ◌≡◌, sym, ◌∙◌, arith}
use Rattle.std.proofs.lemmas.List.{take_all}
use Rattle.std.proofs.lemmas.Slice.{overwrites}
use Rattle.sha2.specs.Sha256.{digest_bytes}
use Rattle.sha2.proofs.Absorbing256.{digest_more}
use Rattle.octet_sums.proofs.sha256.hasher.octets_of.Goals as goal

pub each-init : goal.each-init
unfolding digest_bytes
each-init c = search rules

pub each-preserved : goal.each-preserved
each-preserved c = (
  search (rules, overwrites),
  digest_more c.each.octets c.args.hash.now _ c.each.place _ c.each.invariant.1 (omega arith) (c.copy_from_slice.ensures.after ∙ c.to_be_bytes-word.ensures),
)

pub returns : goal.returns
returns c =
    let end : c.each.place ≡ 8 = omega (arith, c.each.auto.place-end) in
    sym (take_all 32 c.each.octets (omega arith)) ∙ (rw end at c.each.invariant.1)
