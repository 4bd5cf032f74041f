use Rattle.std.proofs.Common.{◌≤◌, ◌∙◌, ap, arith, refl, subst, sym}
use Rattle.pcapng_input.proofs.Leads.{sound_begun, sound_within}
use Rattle.pcapng_input.proofs.Opening.{opens, opens_one}
use Rattle.pcapng_input.specs.Adapter.{Adapter, Gathered}
use Rattle.pcapng_input.specs.State.{IsSound, IsTaken, stand_of}
use Rattle.pcapng_input.proofs.adapter.Adapter.new.Goals as goal
use Rattle.pcapng_input.proofs.adapter.Adapter.new.Goals.{else-is_of_one, else-reads-lt-MOST_READS, then-is_of_one, then-reads-lt-MOST_READS}

pub invariant_of-result : goal.invariant_of-result
invariant_of-result g c =
    let below = c.in_ok-gathered.gathered in
    let context = c.new-3.result in
    let few : c.if-reads-lt-MOST_READS.reads ≤ 35184372088832 =
    elim c.if-reads-lt-MOST_READS.branch [
      | then-reads-lt-MOST_READS w ↦ omega (arith, w.reads-is, w.if-reads-lt-MOST_READS.true)
      | else-reads-lt-MOST_READS w ↦ omega (arith, w.reads-is)
    ] in
    let held = ap (λ (x : Gathered). x.held) c.in_ok-gathered.ensures in
    let reads = ap (λ (x : Gathered). x.supply.reads) c.in_ok-gathered.ensures in
    let fits : below.supply.reads ≤ 35184372088832 = omega (arith, few, reads) in
    elim c.if-is_of_one.branch [
      | then-is_of_one w ↦ subst (λ s. IsSound s context below × IsTaken c.args.selection s) (sym w.state-is) (sound_within context below c.new-3.ensures held fits, tt)
      | else-is_of_one w ↦
          subst (λ s. IsSound s context below × IsTaken c.args.selection s) (sym w.state-is)
          (sound_begun context below c.new-3.ensures held fits, sym c.is_of_one.ensures ∙ w.if-is_of_one.false)
    ]

pub returns-clause-told : goal.returns-clause-told
returns-clause-told g c =
    let context = c.new-3.result in
    let made : Adapter = record { selection = c.args.selection; ready = c.if-is_of_one.ready; stand = stand_of c.if-is_of_one.state context; below = c.in_ok-gathered.gathered } in
    let held = ap (λ (x : Gathered). x.held) c.in_ok-gathered.ensures in
    let rest = ap (λ (x : Gathered). x.supply.rest) c.in_ok-gathered.ensures in
    elim c.if-is_of_one.branch [
      | then-is_of_one w ↦
          opens_one c.args.selection made context (g.R.Input.remaining c.args.input) (sym c.is_of_one.ensures ∙ w.if-is_of_one.true) refl
          (w.ready-is ∙ w.put.ensures ∙ w.global_header.ensures) (ap (λ s. stand_of s context) w.state-is) c.new-3.ensures held rest
      | else-is_of_one w ↦
          opens c.args.selection made (g.R.Input.remaining c.args.input) refl (w.ready-is ∙ c.in_ok-ready.ensures) (ap (λ s. stand_of s context) w.state-is) held rest
    ]
