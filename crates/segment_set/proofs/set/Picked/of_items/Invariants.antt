use Rattle.std.proofs.Common.{◌≡◌, length}
use Rattle.std.specs.List.{slice_split}
use Rattle.std.specs.Prelude.{◌==◌}
use denote.Shadow.{shadow}
use denote.Text.{Utf8}
use Rattle.segment_set.specs.Segments.{Only}
use Rattle.segment_set.specs.Lists.{nothing, with_texts}
use Rattle.segment_set.proofs.set.Picked.of_items.Given as goal

-- says that each `&str` the loop changes is text: keep it, and add clauses with ×
abbrev pub invariant-loop-text : goal.invariant-loop-text
invariant-loop-text l = record {
  text : shadow (Utf8 l.rest);
  same : with_texts (Only l.picked.vids l.picked.none) (slice_split (λ c. c == 44) l.rest) ≡ with_texts nothing (slice_split (λ c. c == 44) l.list);
}

abbrev pub decreases-loop-text : goal.decreases-loop-text
decreases-loop-text l = length l.rest
