use Rattle.std.proofs.Common.{◌≡◌, ◌≢◌, ◌≤◌, length, drop, Option, Some, None, refl, sym, ap, ◌∙◌, arith}
use Rattle.std.proofs.lemmas.Result.{err_from_is_err_and}
use Rattle.wire.specs.declared.ether.reason.Reason.TheVariants.{NotTunnel}
use Rattle.wire.specs.Datagram.{behind_tags}
use Rattle.wire.specs.declared.ip_udp.addr.Tunnel.{Tunnel}
use Rattle.packet_layers.specs.declared.kind.Stop.TheVariants.{At, Deep}
use Rattle.packet_layers.specs.Apart.{Apart}
use Rattle.packet_layers.specs.Dissection.{Taken, stopped, tunnel_off}
use Rattle.packet_layers.proofs.RefusalLemmas.{refusal-runt}
use Rattle.packet_layers.proofs.EtherLemmas.{left-ether}
use Rattle.packet_layers.proofs.FrameLemmas.{ip-reason, udp-reason, ip-is, packet-is, CameToUdp-from, port-none, port-some, sum-reason, tunnel-reason, frame-runt, frame-ip, frame-udp, frame-port, frame-deep, frame-tunnel, frame-on, at_udp}
use Rattle.packet_layers.proofs.dissection.take_frame.Goals as goal

pub returns-in_err-typed-clause-taken : goal.returns-in_err-typed-clause-taken
returns-in_err-typed-clause-taken c =
    let S = c.args.under.now in
    let a = c.args.apart.now in
    let stop = err_from_is_err_and c.from_residual.result c.from_residual.ensures.1 in
    rw (stop.1, stop.2) (frame-runt S c.args.left a c.in_err-typed.field-0.0 (refusal-runt S a.payload.octets ∙ sym c.in_err-typed.ensures.fault)
    ∙ ap (stopped (At c.in_err-typed.field-0.0)) (sym c.in_err-typed.ensures.refused))

pub take_ip-requires-clause-behind : goal.take_ip-requires-clause-behind
take_ip-requires-clause-behind c = λ two.
    let a = c.args.apart.now in
    let b = a.payload.octets in
    let there : 2 ≤ length (behind_tags b) = omega (arith, two, ap length c.in_ok-typed.ensures.typed) in
    ap (λ (x : Apart). x.payload.octets) c.in_ok-typed.ensures.taken ∙ left-ether b a refl there ∙ ap (drop 2) (sym c.in_ok-typed.ensures.typed)

pub returns-in_err-packet-clause-taken : goal.returns-in_err-packet-clause-taken
returns-in_err-packet-clause-taken c =
    let S = c.args.under.now in
    let a = c.args.apart.now in
    let b = a.payload.octets in
    let reason = c.in_err-packet.field-0.0 in
    let stop = err_from_is_err_and c.from_residual-in_err-packet.result c.from_residual-in_err-packet.ensures.1 in
    rw (stop.1, stop.2) (frame-ip S c.args.left a reason (refusal-runt S b ∙ sym c.in_ok-typed.ensures.fault) (ip-reason S b c.in_ok-typed.typed.now (Some reason) c.in_ok-typed.ensures.typed c.in_err-packet.ensures.fault)
    ∙ ap (stopped (At reason)) (sym (c.in_err-packet.ensures.refused ∙ c.in_ok-typed.ensures.taken)))

pub take_udp-requires-clause-tails : goal.take_udp-requires-clause-tails
take_udp-requires-clause-tails c = omega (arith, c.requires.tails, c.take_ether.ensures.few_tails, c.take_ip.ensures.few_tails)

pub take_udp-requires-clause-payload : goal.take_udp-requires-clause-payload
take_udp-requires-clause-payload c = sym c.in_ok-packet.ensures.payload

pub returns-in_err-view-clause-taken : goal.returns-in_err-view-clause-taken
returns-in_err-view-clause-taken c =
    let S = c.args.under.now in
    let a = c.args.apart.now in
    let b = a.payload.octets in
    let t = c.in_ok-typed.typed.now in
    let p = c.in_ok-packet.packet in
    let reason = c.in_err-view.field-0.0 in
    let stop = err_from_is_err_and c.from_residual-in_err-view.result c.from_residual-in_err-view.ensures.1 in
    rw (stop.1, stop.2) (frame-udp S c.args.left a reason (refusal-runt S b ∙ sym c.in_ok-typed.ensures.fault) (ip-reason S b t None c.in_ok-typed.ensures.typed c.in_ok-packet.ensures.fault)
    (udp-reason S b p (Some reason) (packet-is b t p c.in_ok-typed.ensures.typed c.in_ok-packet.ensures.packet) c.in_err-view.ensures.fault)
    ∙ ap (stopped (At reason)) (sym (c.in_err-view.ensures.refused ∙ ip-is b t a c.take_ether.new.apart c.take_ip.new.apart c.in_ok-typed.ensures.typed c.in_ok-typed.ensures.taken c.in_ok-packet.ensures.taken)))

pub returns-in_default-clause-taken : goal.returns-in_default-clause-taken
returns-in_default-clause-taken c =
    let S = c.args.under.now in
    let a = c.args.apart.now in
    let came = CameToUdp-from S a c.take_ether.new.apart c.take_ip.new.apart c.take_udp.new.apart c.in_ok-typed.typed.now c.in_ok-packet.packet c.in_ok-view.view c.dport.result c.kind_at.result c.in_ok-typed.ensures.fault c.in_ok-typed.ensures.taken c.in_ok-typed.ensures.typed c.in_ok-packet.ensures.fault c.in_ok-packet.ensures.taken c.in_ok-packet.ensures.packet c.in_ok-packet.ensures.payload c.in_ok-view.ensures.fault c.in_ok-view.ensures.taken c.in_ok-view.ensures.split c.dport.ensures c.kind_at.ensures in
    frame-port S c.args.left a NotTunnel came.none (port-none S a.payload.octets (sym (none c.kind_at.result c.in_default.not-Some) ∙ came.kind_is))
    ∙ ap (stopped (At NotTunnel)) (sym came.udp_is)
  where
    none : (k : Option Tunnel) → ((x : Tunnel) → k ≡ Some x → ⊥) → k ≡ None
    none None h = refl
    none (Some x) h = absurd (h x refl)

pub returns-then-left-eq0-clause-taken : goal.returns-then-left-eq0-clause-taken
returns-then-left-eq0-clause-taken c =
    let S = c.args.under.now in
    let a = c.args.apart.now in
    let came = CameToUdp-from S a c.take_ether.new.apart c.take_ip.new.apart c.take_udp.new.apart c.in_ok-typed.typed.now c.in_ok-packet.packet c.in_ok-view.view c.dport.result c.kind_at.result c.in_ok-typed.ensures.fault c.in_ok-typed.ensures.taken c.in_ok-typed.ensures.typed c.in_ok-packet.ensures.fault c.in_ok-packet.ensures.taken c.in_ok-packet.ensures.packet c.in_ok-packet.ensures.payload c.in_ok-view.ensures.fault c.in_ok-view.ensures.taken c.in_ok-view.ensures.split c.dport.ensures c.kind_at.ensures in
    frame-deep S c.args.left a came.none (port-some S a.payload.octets c.in-Some.kind (sym c.in-Some.is ∙ came.kind_is)) c.if-left-eq0.true
    ∙ ap (stopped Deep) (sym came.udp_is)

pub returns-in_err-check_sum-clause-taken : goal.returns-in_err-check_sum-clause-taken
returns-in_err-check_sum-clause-taken c =
    let S = c.args.under.now in
    let a = c.args.apart.now in
    let came = CameToUdp-from S a c.take_ether.new.apart c.take_ip.new.apart c.take_udp.new.apart c.in_ok-typed.typed.now c.in_ok-packet.packet c.in_ok-view.view c.dport.result c.kind_at.result c.in_ok-typed.ensures.fault c.in_ok-typed.ensures.taken c.in_ok-typed.ensures.typed c.in_ok-packet.ensures.fault c.in_ok-packet.ensures.taken c.in_ok-packet.ensures.packet c.in_ok-packet.ensures.payload c.in_ok-view.ensures.fault c.in_ok-view.ensures.taken c.in_ok-view.ensures.split c.dport.ensures c.kind_at.ensures in
    let reason = c.in_err-check_sum.field-0.0 in
    let stop = err_from_is_err_and c.from_residual-in_err-check_sum.result c.from_residual-in_err-check_sum.ensures.1 in
    rw (stop.1, stop.2) (frame-tunnel S c.args.left a reason came.none (port-some S a.payload.octets c.in-Some.kind (sym c.in-Some.is ∙ came.kind_is)) c.if-left-eq0.false
    (sum-reason S a.payload.octets c.in_ok-packet.packet c.settings.result.now reason came.packet_is c.settings.ensures c.in_err-check_sum.ensures)
    ∙ ap (stopped (At reason)) (sym came.udp_is))

pub returns-in_err-take_tunnel-clause-taken : goal.returns-in_err-take_tunnel-clause-taken
returns-in_err-take_tunnel-clause-taken c =
    let S = c.args.under.now in
    let a = c.args.apart.now in
    let came = CameToUdp-from S a c.take_ether.new.apart c.take_ip.new.apart c.take_udp.new.apart c.in_ok-typed.typed.now c.in_ok-packet.packet c.in_ok-view.view c.dport.result c.kind_at.result c.in_ok-typed.ensures.fault c.in_ok-typed.ensures.taken c.in_ok-typed.ensures.typed c.in_ok-packet.ensures.fault c.in_ok-packet.ensures.taken c.in_ok-packet.ensures.packet c.in_ok-packet.ensures.payload c.in_ok-view.ensures.fault c.in_ok-view.ensures.taken c.in_ok-view.ensures.split c.dport.ensures c.kind_at.ensures in
    let k = c.in-Some.kind in
    let k_is = sym c.in-Some.is ∙ came.kind_is in
    let reason = c.in_err-take_tunnel.field-0.0 in
    let stop = err_from_is_err_and c.from_residual-in_err-take_tunnel.result c.from_residual-in_err-take_tunnel.ensures.1 in
    rw (stop.1, stop.2) (frame-tunnel S c.args.left a reason came.none (port-some S a.payload.octets k k_is) c.if-left-eq0.false
    (tunnel-reason S a.payload.octets c.in_ok-packet.packet c.settings.result.now k c.known.result.now c.take_udp.new.apart.payload.octets (Some reason) came.packet_is c.settings.ensures c.in_ok-check_sum.ensures k_is c.known.ensures came.data_is c.in_err-take_tunnel.ensures.fault)
    ∙ ap (stopped (At reason)) (sym (c.in_err-take_tunnel.ensures.refused ∙ came.udp_is)))

pub returns-clause-taken : goal.returns-clause-taken
returns-clause-taken c =
    let S = c.args.under.now in
    let a = c.args.apart.now in
    let came = CameToUdp-from S a c.take_ether.new.apart c.take_ip.new.apart c.take_udp.new.apart c.in_ok-typed.typed.now c.in_ok-packet.packet c.in_ok-view.view c.dport.result c.kind_at.result c.in_ok-typed.ensures.fault c.in_ok-typed.ensures.taken c.in_ok-typed.ensures.typed c.in_ok-packet.ensures.fault c.in_ok-packet.ensures.taken c.in_ok-packet.ensures.packet c.in_ok-packet.ensures.payload c.in_ok-view.ensures.fault c.in_ok-view.ensures.taken c.in_ok-view.ensures.split c.dport.ensures c.kind_at.ensures in
    let k = c.in-Some.kind in
    let k_is = sym c.in-Some.is ∙ came.kind_is in
    let on : Option Tunnel → Apart → Taken = λ o x. record { apart = tunnel_off o x; stop = None } in
    frame-on S c.args.left a came.none (port-some S a.payload.octets k k_is) c.if-left-eq0.false
    (tunnel-reason S a.payload.octets c.in_ok-packet.packet c.settings.result.now k c.known.result.now c.take_udp.new.apart.payload.octets None came.packet_is c.settings.ensures c.in_ok-check_sum.ensures k_is c.known.ensures came.data_is c.in_ok-take_tunnel.ensures.fault)
    ∙ ap (λ o. on o (at_udp a)) (sym k_is)
    ∙ ap (on (Some k)) (sym came.udp_is)
    ∙ ap (λ x. record { apart = x; stop = None }) (sym c.in_ok-take_tunnel.ensures.taken)

pub take_tunnel-requires-clause-heads : goal.take_tunnel-requires-clause-heads
take_tunnel-requires-clause-heads c =
    let some : c.args.left ≢ 0 = c.if-left-eq0.false in
    omega (arith, c.requires.heads, c.take_ether.ensures.few_heads, c.take_ip.ensures.few_heads, c.take_udp.ensures.few_heads)

pub take_tunnel-requires-clause-tails : goal.take_tunnel-requires-clause-tails
take_tunnel-requires-clause-tails c =
    let some : c.args.left ≢ 0 = c.if-left-eq0.false in
    omega (arith, c.requires.tails, c.take_ether.ensures.few_tails, c.take_ip.ensures.few_tails, c.take_udp.ensures.few_tails)
