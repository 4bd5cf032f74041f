-- What a packet carries is no longer than the packet.
use Rattle.std.proofs.Common.{◌≡◌, ◌≤◌, ℕ, zero, suc, Bool, true, false, List, length, drop, take, Option, Some, None, IfSome, refl, arith}
use Rattle.std.proofs.lemmas.List.{length-drop, length-take}
use Rattle.wire.specs.Tag.{has_outer_tag, without_tags}
use Rattle.wire.specs.Datagram.{behind_tags, family, ip_text}
use Rattle.wire.specs.Ip.{header_length, packet_length}
use Rattle.wire.specs.Udp.{data_of, udp_length}
use Rattle.decapsulate.specs.Arrival.{packet_in}
use Rattle.capture_compare.specs.Tunnelled.{Tunnelled}

without-short : (n : ℕ) (t : List ℕ) → length (without_tags n t) ≤ length t
without-short zero t = omega arith
without-short (suc n) t = by (has_outer_tag t) refl (without-short n (drop 4 t))
  where
    by : (q : Bool) → has_outer_tag t ≡ q → length (without_tags n (drop 4 t)) ≤ length (drop 4 t) → length (without_tags (suc n) t) ≤ length t
    by true h rest = rw h (omega (arith, rest, length-drop 4 t))
    by false h rest = rw h (omega arith)

cut-short : (n m : ℕ) (t : List ℕ) → length (drop n (take m t)) ≤ length t
cut-short n m t = omega (arith, length-drop n (take m t), length-take m t)

pub payload-short : (b : List ℕ) → length (packet_in b).payload ≤ length b
payload-short b =
    let r = ip_text b in
    let short = cut-short (header_length (family b) r) (packet_length (family b) r) r in
    omega (arith, short, length-drop 2 (behind_tags b), without-short 2 (drop 12 b), length-drop 12 b)

pub data-short : (p : List ℕ) → length (data_of p) ≤ length p
data-short p = cut-short 8 (udp_length p) p

pub shorter : (o : Option Tunnelled) (m n : ℕ) → m ≤ n → IfSome o (λ t. length t.inner ≤ m) → IfSome o (λ t. length t.inner ≤ n)
shorter None m n le h = tt
shorter (Some t) m n le h = omega (arith, le, h)
