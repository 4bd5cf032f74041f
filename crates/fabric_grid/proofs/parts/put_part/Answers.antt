use Rattle.std.proofs.Common.{◌∙◌, sym, ap, length}
use Rattle.fabric_grid.proofs.Below.{each_length}
use Rattle.fabric_grid.proofs.parts.put_part.Goals as goal

pub put_words-requires : goal.put_words-requires
put_words-requires c = c.requires.named ∙ sym (ap length (c.as_slice.ensures.value ∙ c.in_ok-part.ensures) ∙ each_length _ _)
