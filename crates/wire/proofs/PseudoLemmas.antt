-- The sum of a pseudo header and a datagram, whatever the family.
use Rattle.std.proofs.Common.{◌≡◌, ℕ, ◌+◌, ◌%◌, ◌<◌, List, [], ◌∷◌, ◌++◌, length, refl, ap, append-nil, arith}
use Rattle.std.proofs.lemmas.List.{length-append}
use Rattle.std.specs.Prelude.{IsTrue}
use Rattle.wire.specs.Octets.{octets}
use Rattle.wire.specs.Sum.{total}
use Rattle.wire.proofs.SumLemmas.{total-append_even, total-pseudo4, total-pseudo6}
use Rattle.wire.specs.declared.ip_udp.addr.Addr.{Addr}
use Rattle.wire.specs.declared.ip_udp.addr.Addr.TheVariants.{V4, V6}
use Rattle.wire.specs.Addr.{address, IsAddr, same_family}
use Rattle.wire.specs.Udp.{pseudo}

-- of a pseudo header and what comes behind it
pub total-pseudo : (src dst : Addr) (len : ℕ) (d : List ℕ) → IsAddr src → IsAddr dst → IsTrue (same_family src dst) → len < 65536
    → total (pseudo src dst len ++ d) ≡ total (address src) + total (address dst) + 17 + len + total d
total-pseudo (V4 s) (V4 t) len d p q same h = total-pseudo4 s t d len p.0 q.0 h
total-pseudo (V4 s) (V6 t) len d p q same h = absurd cc
total-pseudo (V6 s) (V4 t) len d p q same h = absurd cc
total-pseudo (V6 s) (V6 t) len d p q same h = total-pseudo6 s t d len p.0 q.0 h

-- of a pseudo header alone
pub total-pseudo_alone : (src dst : Addr) (len : ℕ) → IsAddr src → IsAddr dst → IsTrue (same_family src dst) → len < 65536
    → total (pseudo src dst len) ≡ total (address src) + total (address dst) + 17 + len
total-pseudo_alone src dst len p q same h =
    let none : pseudo src dst len ++ [] ≡ pseudo src dst len = append-nil (pseudo src dst len) in
    omega (arith, ap total none, total-pseudo src dst len [] p q same h)

-- a pseudo header is made of whole words
even-pseudo : (src dst : Addr) (len : ℕ) → IsAddr src → IsAddr dst → length (pseudo src dst len) % 2 ≡ 0
even-pseudo (V4 s) (V4 t) len p q = omega (arith, length-append (s ++ t) (0 ∷ 17 ∷ octets 2 len), length-append s t, p.0, q.0)
even-pseudo (V4 s) (V6 t) len p q = refl
even-pseudo (V6 s) (V4 t) len p q = refl
even-pseudo (V6 s) (V6 t) len p q =
    omega (arith, length-append (s ++ t ++ octets 4 len) (0 ∷ 0 ∷ 0 ∷ 17 ∷ []), length-append (s ++ t) (octets 4 len), length-append s t, p.0, q.0)

-- of a pseudo header and of what comes behind it, each for itself
pub total-behind_pseudo : (src dst : Addr) (len : ℕ) (d : List ℕ) → IsAddr src → IsAddr dst → total (pseudo src dst len ++ d) ≡ total (pseudo src dst len) + total d
total-behind_pseudo src dst len d p q = total-append_even (pseudo src dst len) d (even-pseudo src dst len p q)
