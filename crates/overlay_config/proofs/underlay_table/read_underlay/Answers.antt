use Rattle.std.proofs.Common.{[], codes, true, false, refl, sym, ap, ◌∙◌}
use Rattle.config_text.specs.Column.{range, truth, individual_mac}
use Rattle.config_text.specs.Reader.{place_of}
use Rattle.config_text.specs.Table.{Place, only, required, defaulted, listed}
use Rattle.overlay_config.specs.Underlay.{underlay_of, underlay_keys, partial_of, own_addrs_of, tunnel_ports_of, put_known, hops_of}
use Rattle.overlay_config.proofs.SegmentKept.{gives}
use Rattle.overlay_config.proofs.underlay_table.read_underlay.Goals as goal

pub returns : goal.returns
unfolding underlay_of
returns c =
    let version = c.args.version in
    let at : Place = place_of c.args.at.now in
    gives (only at (underlay_keys version)) _ _ _ (sym (c.in_ok-only.ensures ∙ ap (only at) c.underlay_keys.ensures))
    (gives (required at (codes "mac") individual_mac) _ c.in_ok-mac.mac _ (sym c.in_ok-mac.ensures)
    (gives (required at (codes "next_hop") individual_mac) _ c.in_ok-next_hop.next_hop _ (sym c.in_ok-next_hop.ensures)
    (gives (own_addrs_of at) _ (c.in_ok-ip4.ip4, c.in_ok-ip4.ip6) _ (sym c.in_ok-ip4.ensures)
    (gives (defaulted at (codes "mtu") (range 1280 65535) 1550) _ c.in_ok-mtu.mtu _ (sym c.in_ok-mtu.ensures)
    (gives (defaulted at (codes "ttl") (range 1 255) 64) _ c.in_ok-ttl.ttl _ (sym c.in_ok-ttl.ensures)
    (gives (tunnel_ports_of at) _ (c.in_ok-vxlan_port.vxlan_port, c.in_ok-vxlan_port.geneve_port) _ (sym c.in_ok-vxlan_port.ensures)
    (gives (defaulted at (codes "sum4") truth false) _ c.in_ok-sum4.sum4 _ (sym c.in_ok-sum4.ensures)
    (gives (defaulted at (codes "sum6") truth true) _ c.in_ok-sum6.sum6 _ (sym c.in_ok-sum6.ensures)
    (gives (defaulted at (codes "zero6") truth true) _ c.in_ok-zero6.zero6 _ (sym c.in_ok-zero6.ensures)
    (gives (partial_of version at) _ c.in_ok-partial.partial _ (sym c.in_ok-partial.ensures)
    (gives (listed at (codes "known") 16 put_known []) _ c.in_ok-known.known _ (sym (c.in_ok-known.ensures ∙ ap (listed at (codes "known") 16 put_known) c.new.ensures))
    (gives (hops_of c.args.limits.hops at) _ c.in_ok-hops.hops _ c.in_ok-hops.ensures
    refl))))))))))))
