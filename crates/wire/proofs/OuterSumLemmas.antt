-- Sums of heads from the sums of what is fixed in them.
use Rattle.std.proofs.Common.{◌≡◌, ℕ, Option, Some, None, ◌+◌, ◌*◌, ◌-◌, ◌<◌, List, [], ◌∷◌, ◌++◌, length, sym, ap, ◌∙◌, arith}
use Rattle.std.specs.Prelude.{IfSome, is_some}
use Rattle.std.specs.Option.{option_map_or}
use Rattle.std.proofs.lemmas.List.{length-append}
use Rattle.wire.specs.Sum.{total, folded, complement, sent_of, sent, check}
use Rattle.wire.proofs.SumLemmas.{total-append_even}
use Rattle.wire.proofs.FoldLemmas.{folded-added}
use Rattle.wire.specs.declared.ip_udp.addr.Addr.{Addr}
use Rattle.wire.specs.Udp.{pseudo, udp_header}
use Rattle.wire.specs.OuterPacket.{ip4_header, sum_sent}
use Rattle.wire.specs.OuterTemplate.{Fixed, ip4_part, udp_part}

-- the words of an IPv4 header
pub total-ip4 : (t : Fixed) (dst : List ℕ) (len : ℕ) → length t.src ≡ 4 → len < 65536 → total (ip4_header t.ttl t.src dst len 0) ≡ ip4_part t + len + total dst
total-ip4 t dst len four fits =
    omega (arith, total-append_even t.src dst (omega arith), total-append_even t.src (0 ∷ 0 ∷ 0 ∷ 0 ∷ []) (omega arith))

pub check-ip4 : (t : Fixed) (dst : List ℕ) (len x : ℕ) → length t.src ≡ 4 → len < 65536 → x ≡ folded (ip4_part t + len + total dst) → 65535 - x ≡ check (ip4_header t.ttl t.src dst len 0)
check-ip4 t dst len x four fits is =
    ap (λ (n : ℕ). 65535 - n) (is ∙ ap folded (sym (total-ip4 t dst len four fits)))

-- the words of a UDP header and the data behind it
total-udp : (sport dport : ℕ) (tunnel f : List ℕ) → sport < 65536 → dport < 65536 → length tunnel ≡ 8 → 16 + length f < 65536
    → total (udp_header sport dport 0 (tunnel ++ f) ++ (tunnel ++ f)) ≡ sport + dport + (16 + length f) + total tunnel + total f
total-udp sport dport tunnel f h k eight fits =
    omega (arith, length-append tunnel f, total-append_even tunnel f (omega arith))

-- the checksum from the sum of what is fixed, and the folded sum of the frame, over a family whose pseudo header has such a sum
sent-udp : (of : List ℕ → Addr) (t : Fixed) (dst f : List ℕ) (sport x : ℕ)
    → ((rest : List ℕ) (len : ℕ) → len < 65536 → total (pseudo (of t.src) (of dst) len ++ rest) ≡ total t.src + total dst + 17 + len + total rest)
    → length t.tunnel ≡ 8 → sport < 65536 → t.dport < 65536 → 16 + length f < 65536
    → x ≡ sent_of (complement (udp_part t + total dst + 2 * (16 + length f) + sport + folded (total f)))
    → x ≡ sent (pseudo (of t.src) (of dst) (8 + length (t.tunnel ++ f)) ++ (udp_header sport t.dport 0 (t.tunnel ++ f) ++ (t.tunnel ++ f)))
sent-udp of t dst f sport x total-pseudo eight h k fits is =
    let d = t.tunnel ++ f in
    let len = length-append t.tunnel f in
    let rest = udp_header sport t.dport 0 d ++ d in
    let whole : udp_part t + total dst + 2 * (16 + length f) + sport + total f ≡ total (pseudo (of t.src) (of dst) (8 + length d) ++ rest) =
    omega (arith, len, total-pseudo rest (8 + length d) (omega (arith, len)), total-udp sport t.dport t.tunnel f h k eight fits) in
    is ∙ ap (λ (n : ℕ). sent_of (65535 - n)) (folded-added (udp_part t + total dst + 2 * (16 + length f) + sport) (total f) ∙ ap folded whole)

-- the checksum that is sent, from what the code adds up
pub sum-sent : (of : List ℕ → Addr) (t : Fixed) (dst f : List ℕ) (sport x fixed len : ℕ) (asked : Option ℕ)
    → ((rest : List ℕ) (len : ℕ) → len < 65536 → total (pseudo (of t.src) (of dst) len ++ rest) ≡ total t.src + total dst + 17 + len + total rest)
    → length t.tunnel ≡ 8 → sport < 65536 → t.dport < 65536 → 16 + length f < 65536
    → fixed ≡ udp_part t → len ≡ 16 + length f → IfSome asked (λ s. s ≡ folded (total f))
    → x ≡ option_map_or (λ s. sent_of (complement (fixed + total dst + 2 * len + sport + s))) asked 0
    → x ≡ sum_sent (is_some asked) (of t.src) (of dst) sport t.dport (t.tunnel ++ f)
sum-sent of t dst f sport x fixed len None total-pseudo eight h k fits fixed_is len_is sum_is is = is
sum-sent of t dst f sport x fixed len (Some s) total-pseudo eight h k fits fixed_is len_is sum_is is =
    let same : fixed + total dst + 2 * len + sport + s ≡ udp_part t + total dst + 2 * (16 + length f) + sport + folded (total f) = omega (arith, fixed_is, len_is, sum_is) in
    sent-udp of t dst f sport x total-pseudo eight h k fits (is ∙ ap (λ (n : ℕ). sent_of (complement n)) same)
