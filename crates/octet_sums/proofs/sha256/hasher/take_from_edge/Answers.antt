use Rattle.std.proofs.Common.{◌*◌, ◌/◌, length, ◌∙◌}
use Rattle.std.proofs.lemmas.List.{take_rest}
use Rattle.octet_sums.proofs.Absorbing.{behind_edge, kept}
use Rattle.octet_sums.proofs.sha256.hasher.take_from_edge.Goals as goal

pub returns : goal.returns
returns c = λ i m edge held.
    let d = c.args.octets.now in
    rw c.take_blocks.ensures
    (behind_edge i c.args.hash.now c.args.rest.now _ m d edge held (kept d _ _ (c.copy_from_slice.ensures.after ∙ take_rest d (length d / 64 * 64))))
