use Rattle.std.proofs.Common.{◌∙◌, sym, inl, inr, arith}
use Rattle.run_reports.proofs.Seeking.{address_left, address_marked}
use Rattle.run_reports.proofs.sought.mark_addresses.Goals as goal
use Rattle.run_reports.proofs.sought.mark_addresses.Goals.{then-not-k+then-is_with, else-not-k, else-not-k-via-then-not-k+else-is_with, else-not-k-via-else-not-k}

pub loop-k-preserved : goal.loop-k-preserved
loop-k-preserved c =
    let old = c.args.addresses.now in
    let now = c.loop-k.addresses in
    let new = c.if-not-k.addresses in
    let i = c.loop-k.k-index in
    elim c.if-not-k.branch [
      | then-not-k+then-is_with w ↦
          let all = address_marked c.args.passing.now old now new i c.k-item.result c.if-not-k.is_first (omega arith) c.loop-k.invariant.met w.if-not-k.true (sym w.is_with.ensures ∙ w.if-is_with.true) w.is_first-is w.addresses-is in
          record { first = all.0; met = all.1 }
      | else-not-k w ↦
          elim w.else-not-k.branch [
            | else-not-k-via-then-not-k+else-is_with v ↦
                let all = address_left c.args.passing.now old now new i c.k-item.result c.loop-k.is_first c.if-not-k.is_first (omega arith) c.loop-k.invariant.first c.loop-k.invariant.met (inr (sym v.is_with.ensures ∙ v.if-is_with.false)) w.is_first-is (w.addresses-is ∙ v.addresses-is) in
                record { first = all.0; met = all.1 }
            | else-not-k-via-else-not-k v ↦
                let all = address_left c.args.passing.now old now new i c.k-item.result c.loop-k.is_first c.if-not-k.is_first (omega arith) c.loop-k.invariant.first c.loop-k.invariant.met (inl v.if-not-k.false) w.is_first-is (w.addresses-is ∙ v.addresses-is) in
                record { first = all.0; met = all.1 }
          ]
    ]
