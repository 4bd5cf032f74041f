-- Lists that are the same.
use Rattle.std.proofs.Common.{◌≡◌, ℕ, suc, ◌<◌, true, List, [], ◌∷◌, length, slice_get, refl, ◌∙◌, ap, arith}
use Rattle.std.proofs.lemmas.Bool.{and_parts}
use Rattle.std.proofs.lemmas.Option.{same_Some}
use Rattle.wire.proofs.OctetsLemmas.{is_same-true}
use Rattle.wire.specs.Addr.{same_addr, same_kind}
use Rattle.wire.specs.declared.ip_udp.addr.Addr.{Addr}
use Rattle.wire.specs.declared.ip_udp.addr.Addr.TheVariants.{V4, V6}
use Rattle.wire.specs.declared.ip_udp.addr.Tunnel.{Tunnel}
use Rattle.wire.specs.declared.ip_udp.addr.Tunnel.TheVariants.{Vxlan, Geneve}
use Rattle.overlay.specs.Flood.{is_entry}
use Rattle.overlay.specs.declared.flood.remote.Remote.{Remote}

pub kind-same : (a b : Tunnel) → same_kind a b ≡ true → a ≡ b
kind-same Vxlan Vxlan h = refl
kind-same Geneve Geneve h = refl
kind-same Vxlan Geneve h = absurd (cc)
kind-same Geneve Vxlan h = absurd (cc)

addr-same : (a b : Addr) → same_addr a b ≡ true → a ≡ b
addr-same (V4 a) (V4 b) h = ap V4 (is_same-true a b h)
addr-same (V4 a) (V6 b) h = absurd (cc)
addr-same (V6 a) (V4 b) h = absurd (cc)
addr-same (V6 a) (V6 b) h = ap V6 (is_same-true a b h)

-- the test of an entry is equality
pub entry-same : (a b : Remote) → is_entry b.tunnel b.addr a ≡ true → a ≡ b
entry-same a b h =
    let both = and_parts (same_kind a.tunnel b.tunnel) (same_addr a.addr b.addr) h in
    let kind = kind-same a.tunnel b.tunnel both.0 in
    let addr = addr-same a.addr b.addr both.1 in
    λ i. record { tunnel = kind i; addr = addr i }

-- lists of one length with the same at each place are the same
pub same_lists : {X : Type 0} (xs ys : List X) → length xs ≡ length ys → ((k : ℕ) → k < length xs → slice_get xs k ≡ slice_get ys k) → xs ≡ ys
same_lists [] [] size each = refl
same_lists [] (y ∷ ys) size each = absurd (omega arith)
same_lists (x ∷ xs) [] size each = absurd (omega arith)
same_lists (x ∷ xs) (y ∷ ys) size each =
    let head = same_Some x y (each 0 (omega arith)) in
    let tail = same_lists xs ys (omega arith) (λ k lt. each (suc k) (omega arith)) in
    ap (λ z. z ∷ xs) head ∙ ap (λ zs. y ∷ zs) tail
