use Rattle.std.proofs.Common.{ℕ, List, [], ◌∷◌, slice_index_or, ap}
use Rattle.shared_tables.specs.Bucket.{mac_in}
use Rattle.shared_tables.proofs.bucket.mac_of.Goals as goal

pub returns : goal.returns
unfolding mac_in
returns c = ap (λ (t : List ℕ). slice_index_or t 2 0 ∷ slice_index_or t 3 0 ∷ slice_index_or t 4 0 ∷ slice_index_or t 5 0 ∷ slice_index_or t 6 0 ∷ slice_index_or t 7 0 ∷ []) c.to_be_bytes.ensures
