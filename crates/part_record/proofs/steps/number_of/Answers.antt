use Rattle.std.proofs.Common.{◌∙◌, sym, ap, decimal}
use Rattle.std.proofs.lemmas.Fmt.{parse-decimal}
use Rattle.part_record.proofs.Lines.{number_read}
use Rattle.part_record.proofs.steps.number_of.Goals as goal

pub returns-in-Err : goal.returns-in-Err
returns-in-Err c n small e =
    let read = parse-decimal 64 n c.args.digits.now c.parse.result small small e c.parse.ensures.value.0 in
    let wrong = sym read ∙ c.in-Err.is in
    cc wrong

pub returns-else-is_same : goal.returns-else-is_same
returns-else-is_same c n small e =
    let same = number_read c.args.digits.now n c.in-Ok.number c.parse.result small e c.in-Ok.is c.parse.ensures.value.0 in
    let wrong = c.if-is_same.ensures.1 (c.as_bytes.ensures.value ∙ c.format-again.ensures.text ∙ ap decimal same ∙ sym e ∙ sym c.as_bytes-in-Ok.ensures.value) in
    cc wrong
