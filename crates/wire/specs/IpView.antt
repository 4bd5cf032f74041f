-- An IP packet of either family as it is read: its family and its parts (RFC 791, 3.1; RFC 8200, 3).
use Rattle.wire.specs.declared.ip_udp.ip_view.IpView.{IpView}
use Rattle.wire.specs.declared.ip_udp.ip_view.IpView.TheVariants.{V4, V6}
use Rattle.wire.specs.Ip.{Family, Ip4, Ip6}
use Rattle.wire.specs.IpParts.{Parts}

-- the family of its header
abbrev pub family_of : IpView → Family
family_of (V4 v) = Ip4
family_of (V6 v) = Ip6

-- its header, its payload and what stands behind
abbrev pub parts_of : IpView → Parts
parts_of (V4 v) = v
parts_of (V6 v) = v
