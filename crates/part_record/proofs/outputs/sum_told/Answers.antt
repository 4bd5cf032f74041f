use Rattle.std.proofs.Common.{◌∙◌, sym}
use Rattle.part_record.proofs.OutputText.{same_number, sums_parts}
use Rattle.part_record.proofs.outputs.sum_told.Goals as goal

pub returns-in_default-number_then : goal.returns-in_default-number_then
returns-in_default-number_then c s rest is e =
    let octets = same_number c.in-Some.octets s.octets c.in-Some.summed.now _ c.in-Some.ensures.0 is.octets (sym c.in-Some.ensures.1 ∙ e ∙ sums_parts s rest) in
    c.in_default-number_then.ensures s.first _ is.first octets.1

pub returns-in_default-last_number : goal.returns-in_default-last_number
returns-in_default-last_number c s rest is e =
    let octets = same_number c.in-Some.octets s.octets c.in-Some.summed.now _ c.in-Some.ensures.0 is.octets (sym c.in-Some.ensures.1 ∙ e ∙ sums_parts s rest) in
    let found = c.in-Some-number_then in
    let first = same_number found.first s.first found.last.now _ found.ensures.0 is.first (sym found.ensures.1 ∙ octets.1) in
    c.in_default-last_number.ensures s.second rest is.second first.1
