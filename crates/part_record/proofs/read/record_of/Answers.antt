use Rattle.std.proofs.Common.{◌∙◌, ◌++◌, ap, sym, List, ℕ, append_assoc, append-nil}
use Rattle.part_record.proofs.Reading.{empty, nonempty}
use Rattle.part_record.proofs.RecordText.{has_one}
use Rattle.part_record.specs.Record.{facts_of, text_of}
use Rattle.part_record.specs.Texts.{text_lines}
use Rattle.part_record.proofs.read.record_of.Goals as goal

pub returns-in-Err-clause-none : goal.returns-in-Err-clause-none
returns-in-Err-clause-none c f outputs texts is some are e = c.in-Err.ensures.none f outputs (text_lines texts) is some e

pub returns-then-not-is_empty-clause-none : goal.returns-then-not-is_empty-clause-none
returns-then-not-is_empty-clause-none c f outputs texts is some are e =
    let made = c.in-Ok.ensures.read in
    let same = has_one (facts_of c.in-Ok.made.0) f c.in-Ok.made.1.items outputs c.in-Ok.made.2.now (text_lines texts) made.0 is made.1 some (sym made.2 ∙ e) in
    nonempty c.texts_of.result.1.now (sym c.if-not-is_empty.ensures) (c.texts_of.ensures.all texts are same.2).1

pub returns-then-not-is_empty-clause-fault : goal.returns-then-not-is_empty-clause-fault
returns-then-not-is_empty-clause-fault c =
    let made = c.in-Ok.ensures.read in
    let text = text_of (facts_of c.in-Ok.made.0) c.in-Ok.made.1.items in
    let texts = c.texts_of.result.0 in
    let rest = c.texts_of.result.1.now in (
      facts_of c.in-Ok.made.0,
      c.in-Ok.made.1.items,
      texts,
      rest,
      made.0,
      made.1,
      c.texts_of.ensures.told,
      made.2 ∙ ap (λ (l : List ℕ). text ++ l) c.texts_of.ensures.read ∙ sym (append_assoc text (text_lines texts) rest),
      nonempty rest (sym c.if-not-is_empty.ensures),
    )

pub returns-clause-read : goal.returns-clause-read
returns-clause-read c =
    let made = c.in-Ok.ensures.read in
    let text = text_of (facts_of c.in-Ok.made.0) c.in-Ok.made.1.items in
    let lines = text_lines c.texts_of.result.0 in
    let rest = c.texts_of.result.1.now in
    let left = c.texts_of.ensures.read ∙ ap (λ (l : List ℕ). lines ++ l) (empty rest (sym c.if-not-is_empty.ensures)) ∙ append-nil lines in (
      made.0,
      made.1,
      c.texts_of.ensures.told,
      made.2 ∙ ap (λ (l : List ℕ). text ++ l) left,
    )
