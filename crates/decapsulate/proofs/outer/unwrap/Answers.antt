use Rattle.std.proofs.Common.{◌≡◌, ◌≤◌, ◌∙◌, List, ℕ, length, ap, arith, sym, Some, None, Err}
use Rattle.wire.specs.First.{first, unless}
use Rattle.wire.specs.Frame.{frame_of}
use Rattle.wire.specs.Refusal.{as_refused}
use Rattle.wire.specs.declared.ether.reason.Reason.{Reason}
use Rattle.wire.specs.Udp.{data_of}
use Rattle.overlay.specs.Overlay.{Overlay}
use Rattle.decapsulate.specs.Arrival.{packet_in, inner_of, kind_to, outer_reasons, carried_reasons, arrival_by, arrival}
use Rattle.decapsulate.proofs.PlaceLemmas.{plain-inner}
use Rattle.decapsulate.proofs.ReasonsLemmas.{outer-frame, outer-carried}
use Rattle.decapsulate.proofs.outer.unwrap.Goals as goal

-- where a reason holds before the segment is asked for, nothing arrives for it
refused : (S : Overlay) (b : List ℕ) (reason : Reason) → first (outer_reasons S b) ≡ Some reason → arrival S b ≡ Err (record { segment = None; reason = reason })
refused S b reason h =
    let p = packet_in b in
    ap (λ o. unless (as_refused None o) (arrival_by S (kind_to S.underlay p) p.source p.destination (data_of p.payload))) h

pub returns-in-Err-clause-value : goal.returns-in-Err-clause-value
returns-in-Err-clause-value c =
    let S = c.args.under.now in
    let b = c.args.octets.now in
    let reason = c.in-Err.reason in
    ap Err c.nowhere.ensures ∙ sym (refused S b reason (outer-frame S b reason (sym c.in-Err.ensures.fault)))

pub returns-in-Err-carried_in-clause-value : goal.returns-in-Err-carried_in-clause-value
returns-in-Err-carried_in-clause-value c =
    let S = c.args.under.now in
    let b = c.args.octets.now in
    let reason = c.in-Err-carried_in.reason in
    let U = ap (λ u. first (carried_reasons u c.in-Ok.packet)) c.settings.ensures in
    let told = c.in-Err-carried_in.ensures.fault ∙ U ∙ ap (λ k. first (carried_reasons S.underlay k)) c.in-Ok.ensures.packet in
    ap Err c.nowhere-in-Err-carried_in.ensures ∙ sym (refused S b reason (outer-carried S b (Some reason) (sym c.in-Ok.ensures.fault) (sym told)))

pub returns-in-Ok-frame_in-clause-place : goal.returns-in-Ok-frame_in-clause-place
returns-in-Ok-frame_in-clause-place c =
    let b = c.args.octets.now in
    let carried = c.in-Ok-carried_in.carried in
    let inner = c.in-Ok-carried_in.ensures.inner ∙ ap (λ k. inner_of carried.kind (data_of k.payload)) c.in-Ok.ensures.packet in
    let long_e : 14 ≤ length (inner_of carried.kind (data_of (packet_in b).payload)) = omega (arith, ap length inner, c.in-Ok-frame_in.ensures.long) in
    plain-inner carried.kind b c.in-Ok-frame_in.frame (c.in-Ok-frame_in.ensures.frame ∙ ap frame_of inner) long_e
