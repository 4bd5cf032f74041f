use Rattle.std.proofs.Common.{◌∙◌, sym, ap, length}
use Rattle.fabric_grid.proofs.Below.{each_length}
use Rattle.fabric_grid.proofs.boxes.put_box.Goals as goal

pub put_sides-requires : goal.put_sides-requires
put_sides-requires c = record {
  heads = c.requires.named ∙ sym (ap length (c.as_slice.ensures.value ∙ c.in_ok-heads.ensures) ∙ each_length _ _);
  columns = c.requires.named ∙ sym (ap length (c.as_slice-2.ensures.value ∙ c.in_ok-columns.ensures) ∙ each_length _ _);
}
