-- A law of keys. It states no standard.
use Rattle.std.specs.Prelude.{◌≡◌, ◌≤◌, ℕ, List, ◌∷◌, length, Some, None}
use Rattle.wire.specs.Addr.{IsAddr}
use Rattle.wire.specs.Vxlan.{IsVni}
use Rattle.capture_compare.specs.Key.{carried_text}
use Rattle.capture_compare.specs.Tunnelled.{Tunnelled}
use Rattle.capture_compare.specs.KeyRead.{key_read}

-- what can be carried: addresses of their families, a VNI of 24 bits and at most 252 octets of options
pub record CanBe (t : Tunnelled) : Type 0 where
  pub source : IsAddr t.source
  pub destination : IsAddr t.destination
  pub vni : IsVni t.vni
  pub options : length t.options ≤ 252

-- from the key of what a tunnel carries comes back just that
abbrev pub KeyIsRead : Type 0
KeyIsRead = (t : Tunnelled) → CanBe t → key_read (carried_text t) ≡ Some t

-- and from the key of a packet of no tunnel nothing
abbrev pub OthersAreNot : Type 0
OthersAreNot = (b : List ℕ) → key_read (0 ∷ b) ≡ None
