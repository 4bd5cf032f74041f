use Rattle.std.proofs.Common.{◌∙◌, sym, ℕ, false, inl, inr, arith, slice_index_or}
use Rattle.run_reports.specs.declared.sought.SoughtReason.{SoughtReason}
use Rattle.run_reports.proofs.Seeking.{reason_left, reason_marked}
use Rattle.run_reports.proofs.sought.mark_reasons.Goals as goal
use Rattle.run_reports.proofs.sought.mark_reasons.Goals.{then-not-k+then-is_marked, else-not-k, else-not-k-via-then-not-k+else-is_marked, else-not-k-via-else-not-k}

abbrev blank : SoughtReason
blank = record { number = 0; place = 0; is_met = false }

pub loop-k-preserved : goal.loop-k-preserved
loop-k-preserved c =
    let old = c.args.reasons.now in
    let now = c.loop-k.reasons in
    let new = c.if-not-k.reasons in
    let i = c.loop-k.k-index in
    elim c.if-not-k.branch [
      | then-not-k+then-is_marked w ↦
          let all = reason_marked (λ (n : ℕ). slice_index_or c.args.causes.now n false) old now new i blank c.if-not-k.is_first (omega arith) c.loop-k.invariant.met w.if-not-k.true (sym w.is_marked.ensures ∙ w.if-is_marked.true) w.is_first-is w.reasons-is in
          record { first = all.0; met = all.1 }
      | else-not-k w ↦
          elim w.else-not-k.branch [
            | else-not-k-via-then-not-k+else-is_marked v ↦
                let all = reason_left (λ (n : ℕ). slice_index_or c.args.causes.now n false) old now new i blank c.loop-k.is_first c.if-not-k.is_first (omega arith) c.loop-k.invariant.first c.loop-k.invariant.met (inr (sym v.is_marked.ensures ∙ v.if-is_marked.false)) w.is_first-is (w.reasons-is ∙ v.reasons-is) in
                record { first = all.0; met = all.1 }
            | else-not-k-via-else-not-k v ↦
                let all = reason_left (λ (n : ℕ). slice_index_or c.args.causes.now n false) old now new i blank c.loop-k.is_first c.if-not-k.is_first (omega arith) c.loop-k.invariant.first c.loop-k.invariant.met (inl v.if-not-k.false) w.is_first-is (w.reasons-is ∙ v.reasons-is) in
                record { first = all.0; met = all.1 }
          ]
    ]
