-- The parts of a packet that is sent, from its text.
use Rattle.std.proofs.Common.{◌≡◌, ◌∙◌, sym, ap, ◌-◌, List, ℕ, [], ◌++◌, length, take, arith, append_assoc, length-append, Option, Some, None, Result, Ok, Err}
use Rattle.std.specs.Prelude.{IsErrAnd}
use Rattle.std.proofs.Math.Seq.{take-append_seam}
use Rattle.wire.specs.Frame.{Frame, plain}
use Rattle.wire.specs.declared.ether.reason.Reason.{Reason}
use Rattle.wire.proofs.FirstLemmas.{same_Ok}
use Rattle.wire.specs.declared.ip_udp.addr.Addr.{Addr}
use Rattle.wire.specs.declared.ip_udp.addr.Tunnel.{Tunnel}
use Rattle.overlay.specs.Overlay.{Overlay}
use Rattle.encapsulate.specs.Emission.{Parts, text, around}
use Rattle.encapsulate.specs.Remote.{admits, before, parts_behind, remote_text, sending, sending_parts, text_behind}

-- what stands before the end of a text
before-is : (front end : List ℕ) → front ≡ before end (front ++ end)
before-is front end =
    let n : length (front ++ end) - length end ≡ length front = omega (arith, length-append front end) in
    sym (ap (λ k. take k (front ++ end)) n ∙ take-append_seam front end)

abbrev texts_by : Option Reason → List ℕ → Result (List ℕ) Reason
texts_by o t = elim o [ Some reason ↦ Err reason | None ↦ Ok t ]

abbrev parts_by : Option Reason → List ℕ → Frame → Result Parts Reason
parts_by o t f = elim o [ Some reason ↦ Err reason | None ↦ Ok (around (before (plain f) t) [] f) ]

sent : (o : Option Reason) (t head : List ℕ) (f : Frame) → Ok (text (around head [] f)) ≡ texts_by o t → Ok (around head [] f) ≡ parts_by o t f
sent (Some reason) t head f h = absurd cc
sent None t head f h =
    let whole : head ++ plain f ≡ t = sym (ap (λ x. head ++ x) (append_assoc f.dst f.src f.body)) ∙ same_Ok _ t h in
    ap (λ (x : List ℕ). Ok (around x [] f)) (before-is head (plain f) ∙ ap (before (plain f)) whole)

unsent : (o : Option Reason) (t : List ℕ) (f : Frame) (reason : Reason) → Err reason ≡ texts_by o t → Err reason ≡ parts_by o t f
unsent (Some other) t f reason h = let same : reason ≡ other = cc in ap (λ (r : Reason). Err r) same
unsent None t f reason h = absurd cc

-- where the text is that of the packet, the head is what stands before the frame
pub parts-sent : {A : Type 0} (S : Overlay) (vid : ℕ) (kind : Tunnel) (a : Addr) (f : Frame) (head : List ℕ) (r : Result A Reason)
    → text_behind head f r ≡ sending S vid kind a f → parts_behind head f r ≡ sending_parts S vid kind a f
parts-sent S vid kind a f head (Ok x) h = sent (admits S vid a f) (remote_text S vid kind a f) head f h
parts-sent S vid kind a f head (Err reason) h = unsent (admits S vid a f) (remote_text S vid kind a f) f reason h

-- a refusal that is passed on
pub parts-refused : (S : Overlay) (vid : ℕ) (kind : Tunnel) (a : Addr) (f : Frame) (reason : Reason) (x : Result Parts Reason)
    → IsErrAnd x (λ other. other ≡ reason) → Err reason ≡ sending S vid kind a f → x ≡ sending_parts S vid kind a f
parts-refused S vid kind a f reason (Ok parts) passed h = absurd passed
parts-refused S vid kind a f reason (Err other) passed h = ap (λ (r : Reason). Err r) passed ∙ unsent (admits S vid a f) (remote_text S vid kind a f) f reason h
