use Rattle.std.proofs.Common.{rules, sym, ap, ◌∙◌, ◌≡◌, ◌-◌, ◌+◌, take, drop, length}
use Rattle.std.proofs.lemmas.List.{take_rest}
use Rattle.std.proofs.lemmas.Bool.{cond-true, cond-false}
use Rattle.line_words.specs.Numbers.{number_of}
use Rattle.run_reports.specs.Reading.{before_colon, behind_colon, in_run, in_source, source_in}
use Rattle.run_reports.proofs.Naming.{colon_at, colon_none}
use Rattle.run_reports.proofs.reading.name_in.Goals as goal

pub returns-in-Some : goal.returns-in-Some
returns-in-Some c =
    let t = c.args.text.now in
    let at = c.in-Some.at in
    let found = colon_at t at (search rules) (search rules) (search rules) in
    let rest : take (length t - (at + 1)) (drop (at + 1) t) ≡ behind_colon t = take_rest t (at + 1) ∙ sym found.1.1 in
    c.in_source.ensures
    ∙ ap (λ o. in_source o c.number_of.result) (c.source_in.ensures ∙ ap source_in (sym found.1.0))
    ∙ ap (in_source (source_in (before_colon t))) (c.number_of.ensures ∙ ap number_of rest)
    ∙ sym (cond-true _ _ _ found.0)

pub returns-in-None : goal.returns-in-None
returns-in-None c = c.in_run.ensures ∙ ap in_run c.number_of-in-None.ensures ∙ sym (cond-false _ _ _ (colon_none c.args.text.now (search rules)))
