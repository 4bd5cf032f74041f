use Rattle.std.proofs.Common.{◌≡◌, ◌∙◌, sym, ap, subst, ℕ, inl, inr, arith, Some}
use Rattle.wire.specs.Tag.{IsVid}
use Rattle.std.proofs.lemmas.Bool.{cases_lt}
use Rattle.part_record.specs.Parting.{times}
use Rattle.part_record.proofs.parting.part_all.Goals as goal
use Rattle.part_record.proofs.parting.part_all.Goals.{in-Some+in-1, in_default}

pub loop-number-preserved : goal.loop-number-preserved
loop-number-preserved c = λ vid is less.
    elim (cases_lt vid c.loop-number.number) [
      | inl below ↦ c.loop-number.invariant vid is below
      | inr above ↦
          let same : vid ≡ c.loop-number.number = omega arith in
          elim c.match-new.branch [
            | in-Some+in-1 w ↦ ap (λ (v : ℕ). times c.args.parts.now (Some v)) (same ∙ sym w.in-Some.ensures.1) ∙ sym w.times.ensures ∙ w.in-1.is
            | in_default w ↦ absurd (w.in_default.ensures (subst (λ (v : ℕ). IsVid v) same is))
          ]
    ]
