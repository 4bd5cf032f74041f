use Rattle.std.proofs.Common.{◌∙◌, ap, sym, refl, ◌+◌, ◌++◌, length, min}
use Rattle.std.specs.Prelude.{if◌then◌else◌}
use Rattle.std.specs.Option.{option_to_list}
use Rattle.std.specs.String.{string_bytes}
use Rattle.timeline.specs.Captured.{Captured}
use Rattle.timeline.specs.declared.event.Happening.{Happening}
use Rattle.endpoint_core.specs.Counts.{most}
use Rattle.run_counts.specs.Keeping.{Keeping, totals_in}
use Rattle.run_counts.specs.Totals.{at_tap, flow_of, is_partial, is_partial_at, size_from}
use Rattle.run_counts.proofs.Tallies.{expects_by, no_flow_more}
use Rattle.run_counts.proofs.run_counts.RunCountsWatch.see.Goals as goal

pub returns-in-Record : goal.returns-in-Record
returns-in-Record c es given is =
    let i = c.self.inside in
    let old : Keeping = record { came = i.came; left = i.left; refused = i.refused; partial = i.partial; text = string_bytes i.text; is_lost = i.is_lost } in
    let new : Keeping = record { came = c.add.new.self; left = i.left; refused = i.refused; partial = c.partial_with-self-inside.result; text = string_bytes i.text; is_lost = i.is_lost } in
    expects_by old new c.args.event.now
    (λ tap sizes h. c.add.ensures tap sizes h
    ∙ ap (λ (x : Captured). flow_of (sizes ++ option_to_list (at_tap tap c.in-Record.tap (length x.octets)))) c.captured.view_is
    ∙ ap (λ (x : Happening). flow_of (sizes ++ option_to_list (size_from tap x))) (sym c.in-Record.is))
    refl refl
    (c.partial_with-self-inside.ensures
    ∙ ap (λ (x : Captured). if is_partial_at c.in-Record.tap x.octets then min most (i.partial + 1) else i.partial) c.captured.view_is
    ∙ ap (λ (x : Happening). if is_partial x then min most (i.partial + 1) else i.partial) (sym c.in-Record.is))
    es given (ap totals_in c.self.view_is ∙ is)

pub returns-in_default : goal.returns-in_default
returns-in_default c es given is =
    let now : Keeping = c.args.self.now in
    expects_by now now c.args.event.now
    (λ tap sizes h. no_flow_more now.came tap sizes h ∙ ap (λ (x : Happening). flow_of (sizes ++ option_to_list (size_from tap x))) (sym c.in_default.is))
    refl refl (ap (λ (x : Happening). if is_partial x then min most (now.partial + 1) else now.partial) (sym c.in_default.is)) es given is
