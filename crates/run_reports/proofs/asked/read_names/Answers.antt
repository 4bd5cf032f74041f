use Rattle.std.proofs.Common.{◌++◌, [], append-nil, ap, sym, ◌∙◌, List}
use Rattle.std.specs.List.{cons_option}
use Rattle.run_reports.specs.declared.asked.Asked.{Asked}
use Rattle.run_reports.specs.Reading.{asked_at}
use Rattle.run_reports.proofs.Listing.{read_more}
use Rattle.run_reports.proofs.asked.read_names.Goals as goal
use Rattle.run_reports.proofs.asked.read_names.Goals.{in-Some+in_ok-push, in_default}

pub loop-place-preserved : goal.loop-place-preserved
loop-place-preserved c =
    let i = c.loop-place.place in
    let more = read_more c.args.texts.now i _ _ _ c.loop-place-test.true c.as_bytes.ensures.value c.name_in.ensures in
    let so_far = ap (λ (names : List Asked). names ++ cons_option (asked_at i c.name_in.result) []) c.loop-place.invariant in
    elim c.match-name_in.branch [
      | in-Some+in_ok-push w ↦ ap (λ v. v.items) w.names-is ∙ w.in_ok-push.ensures.items ∙ ap (λ o. c.loop-place.names.items ++ cons_option (asked_at i o) []) (sym w.in-Some.is) ∙ so_far ∙ more
      | in_default w ↦ ap (λ v. v.items) w.names-is ∙ sym (append-nil _) ∙ ap (λ o. c.loop-place.names.items ++ cons_option (asked_at i o) []) (sym w.in_default.is) ∙ so_far ∙ more
    ]
