use Rattle.std.proofs.Common.{◌≡◌, ◌∙◌, ◌+◌, ◌++◌, [], ap, sym, arith, replicate}
use Rattle.wire.specs.Sum.{total}
use Rattle.wire.specs.Datagram.{ether_type}
use Rattle.wire.specs.Ip.{Ip4}
use Rattle.wire.specs.OuterPacket.{ip4_header}
use Rattle.wire.specs.OuterTemplate.{Fixed, blank4, fixed4, blank_udp, ip4_part, udp_part}
use Rattle.wire.proofs.FillingLemmas.{made}
use Rattle.wire.proofs.TemplateLemmas.{fixed4-blank, tells4}
use Rattle.wire.proofs.outer.template4.Template4.new.Goals as goal

-- the octets that were written are a blank head
octets_are : (c : goal.After-words-3) → let t : Fixed = record { next_hop = c.args.next_hop; mac = c.args.mac; ttl = c.args.ttl; src = c.args.src; dport = c.args.dport; tunnel = c.args.tunnel } in
    c.copy_from_slice-6.new.self ++ (c.copy_from_slice-5.new.self ++ (c.copy_from_slice-4.new.self ++ (c.copy_from_slice-3.new.self ++ (c.copy_from_slice-2.new.self ++ (c.copy_from_slice.new.self ++ []))))) ≡ blank4 t
octets_are c =
    made _ _ _ _ _ _ c.args.next_hop c.args.mac (ether_type Ip4) (ip4_header c.args.ttl c.args.src (replicate 4 0) 0 0) (blank_udp c.args.dport) c.args.tunnel
    (c.copy_from_slice-6.ensures.after ∙ c.next_hop.view_is)
    (c.copy_from_slice-5.ensures.after ∙ c.mac.view_is)
    c.copy_from_slice-4.ensures.after
    (c.copy_from_slice-3.ensures.after ∙ c.blank_ip4-header.ensures)
    (c.copy_from_slice-2.ensures.after ∙ c.blank_udp.ensures)
    c.copy_from_slice.ensures.after

tells : (c : goal.After-words-3) → let t : Fixed = record { next_hop = c.args.next_hop; mac = c.args.mac; ttl = c.args.ttl; src = c.args.src; dport = c.args.dport; tunnel = c.args.tunnel } in fixed4 (blank4 t) ≡ t
tells c = fixed4-blank c.args.next_hop c.args.mac c.args.src c.args.tunnel c.args.ttl c.args.dport (omega arith) (omega arith) (omega arith) (omega arith) (omega arith)

pub invariant_of-result : goal.invariant_of-result
invariant_of-result c =
    let t : Fixed = record { next_hop = c.args.next_hop; mac = c.args.mac; ttl = c.args.ttl; src = c.args.src; dport = c.args.dport; tunnel = c.args.tunnel } in
    let is = octets_are c in
    let shown = ap fixed4 is ∙ tells c in
    let udp : c.words-2.result + c.from.result + c.from-2.result + c.words-3.result ≡ udp_part t = omega (arith, c.words-2.ensures.sum, c.words-3.ensures.sum, c.from.ensures, c.from-2.ensures) in (
      tells4 _ t is (tells c),
      c.words.ensures.sum ∙ ap total c.blank_ip4-header.ensures ∙ ap ip4_part (sym shown),
      udp ∙ ap udp_part (sym shown),
      omega (arith, ap (λ (x : Fixed). x.dport) shown),
      omega (arith, c.words.ensures.small),
      omega (arith, c.words-2.ensures.small, c.words-3.ensures.small),
    )

pub returns : goal.returns
returns c = ap fixed4 (octets_are c) ∙ tells c
