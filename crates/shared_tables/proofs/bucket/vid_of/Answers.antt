use Rattle.std.proofs.Common.{ℕ, List, [], ◌∷◌, ◌∙◌, slice_index_or, ap}
use Rattle.std.specs.Int.{from_be_bytes, w16}
use Rattle.shared_tables.specs.Bucket.{vid_in}
use Rattle.shared_tables.proofs.bucket.vid_of.Goals as goal

pub returns : goal.returns
unfolding vid_in
returns c = c.from_be_bytes.ensures ∙ ap (λ (t : List ℕ). from_be_bytes w16 (slice_index_or t 0 0 ∷ slice_index_or t 1 0 ∷ [])) c.to_be_bytes.ensures
