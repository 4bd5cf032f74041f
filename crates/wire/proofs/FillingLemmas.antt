-- A blank head that is filled is the head of a packet.
use Rattle.std.proofs.Common.{◌≡◌, ℕ, ◌+◌, List, [], ◌++◌, length, take, drop, refl, sym, ap, ◌∙◌, subst, arith, append_assoc, Bool}
use Rattle.std.proofs.lemmas.List.{take_at, append-nil}
use borrow.Rule.Slice.PartMut.{put_mid}
use Rattle.wire.specs.Octets.{octets, part}
use Rattle.wire.specs.Datagram.{ether_type}
use Rattle.wire.specs.Ip.{Ip4, Ip6}
use Rattle.wire.specs.declared.ip_udp.addr.Addr.TheVariants.{V4, V6}
use Rattle.wire.specs.Sum.{check}
use Rattle.wire.specs.OuterPacket.{ip4_header, ip6_sent, sum_sent, packet4, packet6}
use Rattle.wire.specs.OuterTemplate.{Fixed, blank4, blank6}
use Rattle.wire.proofs.TemplateLemmas.{cells, cells-is, by_cells}

-- ---- octets written into a head, the last first

abbrev pub filled4 : List ℕ → List ℕ → List ℕ → List ℕ → List ℕ → List ℕ → List ℕ → List ℕ → List ℕ
filled4 t hop total check dst sport len sum =
    hop ++ (part 6 10 t ++ (total ++ (part 18 6 t ++ (check ++ (part 26 4 t ++ (dst ++ (sport ++ (part 36 2 t ++ (len ++ (sum ++ part 42 8 t))))))))))

pub put4 : (t hop total check dst sport len sum : List ℕ) → length t ≡ 50
    → hop ++ drop 6 (put_mid 16 2 (put_mid 24 2 (put_mid 30 4 (put_mid 34 2 (put_mid 38 2 (put_mid 40 2 t sum) len) sport) dst) check) total)
    ≡ filled4 t hop total check dst sport len sum
put4 t hop total check dst sport len sum long =
    subst (λ (x : List ℕ). hop ++ drop 6 (put_mid 16 2 (put_mid 24 2 (put_mid 30 4 (put_mid 34 2 (put_mid 38 2 (put_mid 40 2 x sum) len) sport) dst) check) total) ≡ filled4 x hop total check dst sport len sum)
    (cells-is 50 t long) refl

-- the same of octets that are known by other words
pub written4 : (t hop total check dst sport len sum hop' total' check' dst' sport' len' sum' : List ℕ) → length t ≡ 50
    → hop ≡ hop' → total ≡ total' → check ≡ check' → dst ≡ dst' → sport ≡ sport' → len ≡ len' → sum ≡ sum'
    → hop ++ drop 6 (put_mid 16 2 (put_mid 24 2 (put_mid 30 4 (put_mid 34 2 (put_mid 38 2 (put_mid 40 2 t sum) len) sport) dst) check) total)
    ≡ filled4 t hop' total' check' dst' sport' len' sum'
written4 t hop total check dst sport len sum hop' total' check' dst' sport' len' sum' long a b c d e f g =
    put4 t hop total check dst sport len sum long
    ∙ ap (λ (x : List ℕ). filled4 t x total check dst sport len sum) a
    ∙ ap (λ (x : List ℕ). filled4 t hop' x check dst sport len sum) b
    ∙ ap (λ (x : List ℕ). filled4 t hop' total' x dst sport len sum) c
    ∙ ap (λ (x : List ℕ). filled4 t hop' total' check' x sport len sum) d
    ∙ ap (λ (x : List ℕ). filled4 t hop' total' check' dst' x len sum) e
    ∙ ap (λ (x : List ℕ). filled4 t hop' total' check' dst' sport' x sum) f
    ∙ ap (λ (x : List ℕ). filled4 t hop' total' check' dst' sport' len' x) g

abbrev pub filled6 : List ℕ → List ℕ → List ℕ → List ℕ → List ℕ → List ℕ → List ℕ → List ℕ
filled6 t hop payload dst sport len sum =
    hop ++ (part 6 12 t ++ (payload ++ (part 20 18 t ++ (dst ++ (sport ++ (part 56 2 t ++ (len ++ (sum ++ part 62 8 t))))))))

pub put6 : (t hop payload dst sport len sum : List ℕ) → length t ≡ 70
    → hop ++ drop 6 (put_mid 18 2 (put_mid 38 16 (put_mid 54 2 (put_mid 58 2 (put_mid 60 2 t sum) len) sport) dst) payload)
    ≡ filled6 t hop payload dst sport len sum
put6 t hop payload dst sport len sum long =
    subst (λ (x : List ℕ). hop ++ drop 6 (put_mid 18 2 (put_mid 38 16 (put_mid 54 2 (put_mid 58 2 (put_mid 60 2 x sum) len) sport) dst) payload) ≡ filled6 x hop payload dst sport len sum)
    (cells-is 70 t long) refl

pub written6 : (t hop payload dst sport len sum hop' payload' dst' sport' len' sum' : List ℕ) → length t ≡ 70
    → hop ≡ hop' → payload ≡ payload' → dst ≡ dst' → sport ≡ sport' → len ≡ len' → sum ≡ sum'
    → hop ++ drop 6 (put_mid 18 2 (put_mid 38 16 (put_mid 54 2 (put_mid 58 2 (put_mid 60 2 t sum) len) sport) dst) payload)
    ≡ filled6 t hop' payload' dst' sport' len' sum'
written6 t hop payload dst sport len sum hop' payload' dst' sport' len' sum' long a b d e f g =
    put6 t hop payload dst sport len sum long
    ∙ ap (λ (x : List ℕ). filled6 t x payload dst sport len sum) a
    ∙ ap (λ (x : List ℕ). filled6 t hop' x dst sport len sum) b
    ∙ ap (λ (x : List ℕ). filled6 t hop' payload' x sport len sum) d
    ∙ ap (λ (x : List ℕ). filled6 t hop' payload' dst' x len sum) e
    ∙ ap (λ (x : List ℕ). filled6 t hop' payload' dst' sport' x sum) f
    ∙ ap (λ (x : List ℕ). filled6 t hop' payload' dst' sport' len' x) g

-- ---- what a blank head becomes

-- what holds of the octets one by one, of a head's parts and of a next hop and an address
by_all : (n : ℕ) (P : List ℕ → List ℕ → List ℕ → List ℕ → List ℕ → List ℕ → Type 0) (t : Fixed) (hop dst : List ℕ) → length hop ≡ 6 → length dst ≡ n
    → length t.next_hop ≡ 6 → length t.mac ≡ 6 → length t.src ≡ n → length t.tunnel ≡ 8
    → P (cells 6 t.next_hop) (cells 6 t.mac) (cells n t.src) (cells 8 t.tunnel) (cells 6 hop) (cells n dst) → P t.next_hop t.mac t.src t.tunnel hop dst
by_all n P t hop dst h d e m s u one =
    subst (λ (y : List ℕ). P t.next_hop t.mac t.src t.tunnel hop y) (cells-is n dst d)
    (subst (λ (x : List ℕ). P t.next_hop t.mac t.src t.tunnel x (cells n dst)) (cells-is 6 hop h)
    (by_cells n (λ a b c e. P a b c e (cells 6 hop) (cells n dst)) t.next_hop t.mac t.src t.tunnel e m s u one))

pub head4 : (t : Fixed) (hop dst f : List ℕ) (total check sport len sum : ℕ) → length hop ≡ 6 → length dst ≡ 4
    → length t.next_hop ≡ 6 → length t.mac ≡ 6 → length t.src ≡ 4 → length t.tunnel ≡ 8
    → filled4 (blank4 t) hop (octets 2 total) (octets 2 check) dst (octets 2 sport) (octets 2 len) (octets 2 sum) ++ f
    ≡ (hop ++ t.mac) ++ (ether_type Ip4 ++ (ip4_header t.ttl t.src dst total check ++ ((octets 2 sport ++ (octets 2 t.dport ++ (octets 2 len ++ octets 2 sum))) ++ (t.tunnel ++ f))))
head4 t hop dst f total check sport len sum h d n m s u =
    let of : List ℕ → List ℕ → List ℕ → List ℕ → Fixed = λ a b c e. record { next_hop = a; mac = b; ttl = t.ttl; src = c; dport = t.dport; tunnel = e } in
    let P : List ℕ → List ℕ → List ℕ → List ℕ → List ℕ → List ℕ → Type 0 =
    λ a b c e x y.
    filled4 (blank4 (of a b c e)) x (octets 2 total) (octets 2 check) y (octets 2 sport) (octets 2 len) (octets 2 sum) ++ f
    ≡ (x ++ b) ++ (ether_type Ip4 ++ (ip4_header t.ttl c y total check ++ ((octets 2 sport ++ (octets 2 t.dport ++ (octets 2 len ++ octets 2 sum))) ++ (e ++ f)))) in
    by_all 4 P t hop dst h d n m s u refl

pub head6 : (t : Fixed) (hop dst f : List ℕ) (sport len sum : ℕ) → length hop ≡ 6 → length dst ≡ 16
    → length t.next_hop ≡ 6 → length t.mac ≡ 6 → length t.src ≡ 16 → length t.tunnel ≡ 8
    → filled6 (blank6 t) hop (octets 2 len) dst (octets 2 sport) (octets 2 len) (octets 2 sum) ++ f
    ≡ (hop ++ t.mac) ++ (ether_type Ip6 ++ (ip6_sent t.ttl t.src dst len ++ ((octets 2 sport ++ (octets 2 t.dport ++ (octets 2 len ++ octets 2 sum))) ++ (t.tunnel ++ f))))
head6 t hop dst f sport len sum h d n m s u =
    let of : List ℕ → List ℕ → List ℕ → List ℕ → Fixed = λ a b c e. record { next_hop = a; mac = b; ttl = t.ttl; src = c; dport = t.dport; tunnel = e } in
    let P : List ℕ → List ℕ → List ℕ → List ℕ → List ℕ → List ℕ → Type 0 =
    λ a b c e x y.
    filled6 (blank6 (of a b c e)) x (octets 2 len) y (octets 2 sport) (octets 2 len) (octets 2 sum) ++ f
    ≡ (x ++ b) ++ (ether_type Ip6 ++ (ip6_sent t.ttl c y len ++ ((octets 2 sport ++ (octets 2 t.dport ++ (octets 2 len ++ octets 2 sum))) ++ (e ++ f)))) in
    by_all 16 P t hop dst h d n m s u refl

-- the packet, where lengths and checksums are its own
pub packet4-filled : (t : Fixed) (hop dst f : List ℕ) (is_computed : Bool) (sport len c sum : ℕ) → length hop ≡ 6 → length dst ≡ 4
    → length t.next_hop ≡ 6 → length t.mac ≡ 6 → length t.src ≡ 4 → length t.tunnel ≡ 8
    → len ≡ 8 + length (t.tunnel ++ f) → c ≡ check (ip4_header t.ttl t.src dst (20 + len) 0) → sum ≡ sum_sent is_computed (V4 t.src) (V4 dst) sport t.dport (t.tunnel ++ f)
    → filled4 (blank4 t) hop (octets 2 (20 + len)) (octets 2 c) dst (octets 2 sport) (octets 2 len) (octets 2 sum) ++ f
    ≡ packet4 hop t.mac t.ttl is_computed t.src dst sport t.dport (t.tunnel ++ f)
packet4-filled t hop dst f is_computed sport len c sum h d n m s u len_is c_is sum_is =
    let e = t.tunnel ++ f in
    let text : ℕ → ℕ → ℕ → ℕ → List ℕ = λ total check len sum. (hop ++ t.mac) ++ (ether_type Ip4 ++ (ip4_header t.ttl t.src dst total check ++ ((octets 2 sport ++ (octets 2 t.dport ++ (octets 2 len ++ octets 2 sum))) ++ e))) in
    let total_is : 20 + len ≡ 28 + length e = omega (arith, len_is) in
    head4 t hop dst f (20 + len) c sport len sum h d n m s u
    ∙ ap (λ (x : ℕ). text (20 + len) x len sum) c_is
    ∙ ap (λ (x : ℕ). text x (check (ip4_header t.ttl t.src dst x 0)) len sum) total_is
    ∙ ap (λ (x : ℕ). text (28 + length e) (check (ip4_header t.ttl t.src dst (28 + length e) 0)) x sum) len_is
    ∙ ap (λ (x : ℕ). text (28 + length e) (check (ip4_header t.ttl t.src dst (28 + length e) 0)) (8 + length e) x) sum_is

pub packet6-filled : (t : Fixed) (hop dst f : List ℕ) (is_computed : Bool) (sport len sum : ℕ) → length hop ≡ 6 → length dst ≡ 16
    → length t.next_hop ≡ 6 → length t.mac ≡ 6 → length t.src ≡ 16 → length t.tunnel ≡ 8
    → len ≡ 8 + length (t.tunnel ++ f) → sum ≡ sum_sent is_computed (V6 t.src) (V6 dst) sport t.dport (t.tunnel ++ f)
    → filled6 (blank6 t) hop (octets 2 len) dst (octets 2 sport) (octets 2 len) (octets 2 sum) ++ f
    ≡ packet6 hop t.mac t.ttl is_computed t.src dst sport t.dport (t.tunnel ++ f)
packet6-filled t hop dst f is_computed sport len sum h d n m s u len_is sum_is =
    let e = t.tunnel ++ f in
    let text : ℕ → ℕ → List ℕ = λ len sum. (hop ++ t.mac) ++ (ether_type Ip6 ++ (ip6_sent t.ttl t.src dst len ++ ((octets 2 sport ++ (octets 2 t.dport ++ (octets 2 len ++ octets 2 sum))) ++ e))) in
    head6 t hop dst f sport len sum h d n m s u
    ∙ ap (λ (x : ℕ). text x sum) len_is
    ∙ ap (λ (x : ℕ). text (8 + length e) x) sum_is

-- parts that are written side by side
pub side_by_side : (a b c d e f : List ℕ) → a ++ (b ++ (c ++ (d ++ (e ++ (f ++ []))))) ≡ (a ++ b) ++ (c ++ (d ++ (e ++ f)))
side_by_side a b c d e f =
    sym (append_assoc a b (c ++ (d ++ (e ++ (f ++ []))))) ∙ ap (λ (x : List ℕ). (a ++ b) ++ (c ++ (d ++ (e ++ x)))) (append-nil f)

-- a text that is written over as a whole
pub over : (a b : List ℕ) → length b ≡ length a → take (length b) (a ++ drop (length a) b) ≡ a
over a b e = take_at a (drop (length a) b) (length b) (sym e)

-- a head that is written by its parts
pub made : (a b c d e f a' b' c' d' e' f' : List ℕ) → a ≡ a' → b ≡ b' → c ≡ c' → d ≡ d' → e ≡ e' → f ≡ f'
    → a ++ (b ++ (c ++ (d ++ (e ++ (f ++ []))))) ≡ (a' ++ b') ++ (c' ++ (d' ++ (e' ++ f')))
made a b c d e f a' b' c' d' e' f' g h i j k l = rw (g, h, i, j, k, l) (side_by_side a' b' c' d' e' f')
