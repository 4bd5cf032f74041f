use Rattle.std.proofs.Common.{◌∙◌, sym, ap, ◌+◌, ◌||◌, Bool, false, slice_index_or, take, Option, arith}
use Rattle.std.proofs.Math.Bool.{or-false}
use Rattle.wire.specs.declared.ether.reason.Reason.{Reason}
use Rattle.filter_db.specs.declared.place.Place.{Place}
use Rattle.endpoint_core.specs.Decision.{Sent}
use Rattle.endpoint_core.specs.Kept.{state_of}
use Rattle.endpoint_core.specs.Step.{sent_at}
use Rattle.run_reports.specs.Sought.{is_reason, unsent}
use Rattle.run_reports.proofs.Seeking.{any_of_map, marked_one_more, unsent_by_size}
use Rattle.run_reports.proofs.causes.mark_unsent.Goals as goal

pub loop-place-init : goal.loop-place-init
loop-place-init c n = sym (or-false (slice_index_or c.args.causes.now n false))

pub loop-place-preserved : goal.loop-place-preserved
loop-place-preserved c n =
    let f = sent_at (state_of c.args.endpoint.now).bridges.settings c.args.came.now.vid c.args.came.now.frame in
    let xs = c.args.places.now in
    let i = c.loop-place.place-index in
    let old = slice_index_or c.args.causes.now n false in
    let now = slice_index_or c.loop-place.causes n false in
    let sent = any_of_map (λ (o : Sent). is_reason n (unsent o.sent)) f in
    marked_one_more (λ (place : Place). is_reason n (unsent (f place).sent)) xs i _ old now (slice_index_or c.mark_at.new.causes n false) (omega arith)
    (c.loop-place.invariant n ∙ ap (λ (b : Bool). old || b) (sym (sent (take i xs))))
    (c.mark_at.ensures n ∙ ap (λ (reason : Option Reason). now || is_reason n reason) (ap unsent c.size_at.ensures ∙ unsent_by_size _))
    ∙ ap (λ (b : Bool). old || b) (sent (take (i + 1) xs))
