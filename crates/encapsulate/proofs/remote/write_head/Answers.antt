use Rattle.std.proofs.Common.{◌∙◌, ◌++◌, ap, sym, refl}
use Rattle.std.specs.Option.{option_copied}
use Rattle.wire.specs.Frame.{plain}
use Rattle.wire.specs.declared.ip_udp.addr.Addr.TheVariants.{V4, V6}
use Rattle.overlay.specs.Overlay.{tunnel_at}
use Rattle.encapsulate.specs.Packet.{packet4, packet6}
use Rattle.encapsulate.proofs.RemoteLemmas.{written}
use Rattle.encapsulate.proofs.remote.write_head.Goals as goal

pub returns-in-V4 : goal.returns-in-V4
returns-in-V4 c =
    rw c.in-V4.is (written c.args.under.now.underlay c.settings-underlay.result.now c.args.kind (tunnel_at c.args.under.now c.args.vid c.args.kind) c.args.under.now.underlay.ip4 (V4 c.in-V4.dst) (λ U. U.sum4) c.args.frame.now c.unwrap-template.result.now _ _ _ _
    (λ hop b port t. packet4 hop t.mac t.ttl b t.src c.in-V4.dst port t.dport (t.tunnel ++ plain c.args.frame.now)) (λ _ _. refl) (sym c.head4.ensures ∙ ap option_copied c.unwrap-template.ensures) c.settings-underlay.ensures
    c.hop_to-hop.ensures c.for_checksum-sum.ensures.computed c.requires.sums.port c.write.ensures)

pub returns-in-V6 : goal.returns-in-V6
returns-in-V6 c =
    rw c.in-V6.is (written c.args.under.now.underlay c.settings-underlay.result.now c.args.kind (tunnel_at c.args.under.now c.args.vid c.args.kind) c.args.under.now.underlay.ip6 (V6 c.in-V6.dst) (λ U. U.sum6) c.args.frame.now c.unwrap-template-in-V6.result.now _ _ _ _
    (λ hop b port t. packet6 hop t.mac t.ttl b t.src c.in-V6.dst port t.dport (t.tunnel ++ plain c.args.frame.now)) (λ _ _. refl) (sym c.head6.ensures ∙ ap option_copied c.unwrap-template-in-V6.ensures) c.settings-underlay.ensures
    c.hop_to-hop-in-V6.ensures c.for_checksum-sum-in-V6.ensures.computed c.requires.sums.port c.write-in-V6.ensures)
