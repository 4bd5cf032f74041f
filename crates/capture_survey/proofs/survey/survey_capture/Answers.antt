use Rattle.capture_survey.proofs.Surveying.{all_given, fault_given, refusal_found}
use Rattle.capture_survey.proofs.survey.survey_capture.Goals as goal

pub returns-in-Err-clause-told : goal.returns-in-Err-clause-told
returns-in-Err-clause-told g c = λ text e. refusal_found c.args.tap text c.begin.new.source c.in-Err.fault (c.in-Err.ensures.told text e)

pub returns-in-Ok-read_records-clause-told : goal.returns-in-Ok-read_records-clause-told
returns-in-Ok-read_records-clause-told g c =
    λ text e.
    let begun = c.in-Ok.ensures.told text e in
    all_given c.args.tap text c.read_records.new.source.standing c.begin.new.source c.in-Ok.style c.in-Ok-read_records.tally c.is_cut.result c.is_cut.ensures begun
    (c.in-Ok-read_records.ensures.told text begun.1)

pub returns-in-Err-read_records-clause-told : goal.returns-in-Err-read_records-clause-told
returns-in-Err-read_records-clause-told g c =
    λ text e.
    let begun = c.in-Ok.ensures.told text e in
    fault_given c.args.tap text c.read_records.new.source.standing c.begin.new.source c.in-Ok.style c.in-Err-read_records.fault begun
    (c.in-Err-read_records.ensures.told text begun.1)
