use Rattle.std.proofs.Common.{◌≡◌, ◌∙◌, true, false, ◌++◌, ap, subst, sym}
use Rattle.wire.specs.Udp.{SplitsUdp, dport, sum_state}
use Rattle.decapsulate.specs.Arrival.{Packet}
use Rattle.capture_compare.specs.Tunnelled.{is_taken, kind_at, kind_in}
use Rattle.capture_compare.proofs.Port.{kind-by}
use Rattle.capture_compare.proofs.carried.tunnelled.kind_of.Goals as goal

pub returns-then-is_taken : goal.returns-then-is_taken
returns-then-is_taken c =
    let T = c.args.tunnels.now in
    let v = c.args.datagram.now in
    let inside = c.packet.inside in
    let p : Packet = record { source = inside.source; destination = inside.destination; is_fragment = inside.is_fragment; protocol = inside.protocol; payload = inside.payload.now } in
    let port : kind_at T (dport v.head) ≡ c.kind_at-kind.result = sym (c.kind_at-kind.ensures ∙ ap (kind_at T) c.dport.ensures) in
    let state : true ≡ is_taken T (sum_state p.source p.destination (v.head ++ v.payload)) = sym c.if-is_taken.true ∙ c.is_taken.ensures ∙ ap (is_taken T) c.sum_state.ensures in
    let split : SplitsUdp p.payload v = subst (λ (x : Packet). SplitsUdp x.payload v) (sym c.packet.view_is) c.requires in
    kind-by T p v true c.kind_at-kind.result split port state ∙ ap (kind_in T) c.packet.view_is

pub returns-else-is_taken : goal.returns-else-is_taken
returns-else-is_taken c =
    let T = c.args.tunnels.now in
    let v = c.args.datagram.now in
    let inside = c.packet.inside in
    let p : Packet = record { source = inside.source; destination = inside.destination; is_fragment = inside.is_fragment; protocol = inside.protocol; payload = inside.payload.now } in
    let port : kind_at T (dport v.head) ≡ c.kind_at-kind.result = sym (c.kind_at-kind.ensures ∙ ap (kind_at T) c.dport.ensures) in
    let state : false ≡ is_taken T (sum_state p.source p.destination (v.head ++ v.payload)) = sym c.if-is_taken.false ∙ c.is_taken.ensures ∙ ap (is_taken T) c.sum_state.ensures in
    let split : SplitsUdp p.payload v = subst (λ (x : Packet). SplitsUdp x.payload v) (sym c.packet.view_is) c.requires in
    kind-by T p v false c.kind_at-kind.result split port state ∙ ap (kind_in T) c.packet.view_is
