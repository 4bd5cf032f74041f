use Rattle.std.proofs.Common.{◌∙◌, sym}
use Rattle.part_record.proofs.OutputText.{numbers_parts, same_number}
use Rattle.part_record.proofs.outputs.numbers_told.Goals as goal

pub returns-in_default-sum_told : goal.returns-in_default-sum_told
returns-in_default-sum_told c f rest is e =
    let records = same_number c.in-Some.records f.records c.in-Some.summed.now _ c.in-Some.ensures.0 is.records (sym c.in-Some.ensures.1 ∙ e ∙ numbers_parts f rest) in
    c.in_default-sum_told.ensures f.sum rest is.sum records.1
