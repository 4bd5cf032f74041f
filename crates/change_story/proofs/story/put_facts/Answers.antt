use Rattle.std.proofs.Common.{◌≡◌, ◌∙◌, ap, List, ◌++◌, Option}
use Rattle.std.specs.String.{string_bytes}
use Rattle.endpoint_core.specs.Held.{state_at}
use Rattle.endpoint_core.specs.State.{fault}
use Rattle.endpoint_core.specs.declared.state.fault.ChangeFault.{ChangeFault}
use Rattle.change_story.specs.Change.{change_line}
use Rattle.change_story.specs.Checks.{checks, found_unless, refusal, told}
use Rattle.change_story.specs.Seen.{seen_text}
use Rattle.change_story.specs.declared.check.Check.{Check}
use Rattle.change_story.proofs.FaultLemmas.{fault-first}
use Rattle.change_story.proofs.TextLemmas.{three-put}
use Rattle.change_story.proofs.story.put_facts.Goals as goal

pub returns-clause-fault : goal.returns-clause-fault
returns-clause-fault c =
    let B = state_at c.args.now c.args.state.now in
    c.refusal-fault.ensures ∙ ap refusal (c.deref.ensures.value ∙ c.in_ok-checks.ensures) ∙ fault-first B c.args.change.now c.vnis_of-vnis.ensures

pub returns-clause-text : goal.returns-clause-text
returns-clause-text c =
    let B = state_at c.args.now c.args.state.now in
    let change = c.args.change.now in
    let why : c.refusal-fault.result ≡ fault B change =
    c.refusal-fault.ensures ∙ ap refusal (c.deref.ensures.value ∙ c.in_ok-checks.ensures) ∙ fault-first B change c.vnis_of-vnis.ensures in
    three-put (string_bytes c.args.text.now) (change_line change) (seen_text (told (checks B change))) (seen_text (found_unless (fault B change) B change))
    (string_bytes c.put_change.new.text) (string_bytes c.put_told.new.text) (string_bytes c.put_found.new.text)
    c.in_ok-put_change.ensures
    (c.in_ok-put_told.ensures ∙ ap (λ (cs : List Check). string_bytes c.put_change.new.text ++ seen_text (told cs)) (c.deref-2.ensures.value ∙ c.in_ok-checks.ensures))
    (c.in_ok-put_found.ensures ∙ ap (λ (o : Option ChangeFault). string_bytes c.put_told.new.text ++ seen_text (found_unless o B change)) why)
