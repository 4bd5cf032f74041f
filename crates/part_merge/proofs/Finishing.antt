-- The lines of the cut captures of all parts, part by part.
use Rattle.std.proofs.Common.{◌≡◌, ◌∙◌, refl, sym, ap, ℕ, ◌+◌, ◌<◌, List, [], ◌++◌, length, drop, slice_index_or, append_assoc, append-nil, subst, Option}
use Rattle.std.proofs.KnownBytes.{Appends-nil, Appends-trans}
use Rattle.std.specs.Io.KnownBytes.{Appends}
use Rattle.std.specs.List.{concat}
use Rattle.capture_run.proofs.Changes.{left_is}
use Rattle.part_merge.specs.Merged.{side_by_side}
use Rattle.part_merge.proofs.Ending.{concat_both}

-- those in front of this part were put
pub record CutsBefore (cuts : List (List (List ℕ))) (index : ℕ) (written now : Option (List ℕ)) : Type 0 where
  pub done : List ℕ
  pub whole : concat (side_by_side cuts) ≡ done ++ concat (side_by_side (drop index cuts))
  pub added : Appends written now done

pub no_cuts : (cuts : List (List (List ℕ))) (written : Option (List ℕ)) → CutsBefore cuts 0 written written
no_cuts cuts written = record { done = []; whole = refl; added = Appends-nil written }

pub more_cuts : (cuts : List (List (List ℕ))) (index : ℕ) (written now next : Option (List ℕ)) → index < length cuts → CutsBefore cuts index written now → Appends now next (concat (slice_index_or cuts index []))
    → CutsBefore cuts (index + 1) written next
more_cuts cuts index written now next there so_far added =
    let here = slice_index_or cuts index [] in
    let rest = drop (index + 1) cuts in
    record {
      done = so_far.done ++ concat here;
      whole = so_far.whole ∙ ap (λ l. so_far.done ++ concat (side_by_side l)) (left_is cuts index [] there) ∙ ap (λ l. so_far.done ++ l) (concat_both here (side_by_side rest))
          ∙ sym (append_assoc so_far.done (concat here) (concat (side_by_side rest)));
      added = Appends-trans written now next so_far.done (concat here) so_far.added added;
    }

pub all_cuts : (cuts : List (List (List ℕ))) (index : ℕ) (written now : Option (List ℕ)) → drop index cuts ≡ [] → CutsBefore cuts index written now → Appends written now (concat (side_by_side cuts))
all_cuts cuts index written now none so_far =
    subst (Appends written now) (sym (so_far.whole ∙ ap (λ l. so_far.done ++ concat (side_by_side l)) none ∙ append-nil so_far.done)) so_far.added
