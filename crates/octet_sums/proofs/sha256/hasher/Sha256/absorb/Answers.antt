use Rattle.std.proofs.Common.{◌≡◌, ℕ, ◌++◌, ◌-◌, ◌%◌, length, take, drop, arith, refl, ap, ◌∙◌, append_assoc, List}
use Rattle.std.proofs.lemmas.List.{take-append-drop, take_rest}
use Rattle.sha2.specs.Sha256.{initial_hash_256}
use Rattle.sha2.proofs.Absorbing256.{total_append}
use Rattle.octet_sums.proofs.Absorbing.{fills_block, from_parts, of_parts, of_total, short_of_block}
use Rattle.octet_sums.proofs.sha256.hasher.Sha256.absorb.Goals as goal

pub returns-then-begun-eq0 : goal.returns-then-begun-eq0
returns-then-begun-eq0 c = λ m held.
    let s = c.args.self.now in
    let d = c.args.octets.now in
    let count = of_total s m held in
    from_parts _ (m ++ d) (total_append s.count _ m d count refl) (c.take_from_edge.ensures initial_hash_256 m (omega arith) (of_parts s m held))

pub returns-then-octets-wanting : goal.returns-then-octets-wanting
returns-then-octets-wanting c = λ m held.
    let s = c.args.self.now in
    let d = c.args.octets.now in
    let count = of_total s m held in
    from_parts _ (m ++ d) (total_append s.count _ m d count refl)
    (short_of_block initial_hash_256 s.hash s.rest m d _ _ _ (of_parts s m held) (omega arith) (omega arith) (omega arith) c.copy_from_slice.ensures.after)

pub returns : goal.returns
returns c = λ m held.
    let s = c.args.self.now in
    let d = c.args.octets.now in
    let used : ℕ = s.count % 64 in
    let room : ℕ = 64 - used in
    let count = of_total s m held in
    let filled = fills_block initial_hash_256 s.hash s.rest m d _ _ used room (of_parts s m held) (omega arith) (omega arith) refl (omega arith) c.copy_from_slice-2.ensures.after c.take_blocks.ensures in
    let taken = c.take_from_edge-2.ensures initial_hash_256 (m ++ take room d) filled.1 filled.0 in
    let whole : (m ++ take room d) ++ take (length d - room) (drop room d) ≡ m ++ d =
    append_assoc m (take room d) (take (length d - room) (drop room d)) ∙ ap (λ (l : List ℕ). m ++ (take room d ++ l)) (take_rest d room) ∙ ap (λ (l : List ℕ). m ++ l) (take-append-drop room d) in
    from_parts _ (m ++ d) (total_append s.count _ m d count refl) (rw (← whole) taken)
