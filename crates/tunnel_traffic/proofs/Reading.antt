-- The lines of what passed by tunnels, and what they tell.
use Rattle.std.proofs.Common.{◌≡◌, ◌∙◌, ap, sym, refl, subst, ℕ, ◌^◌, ◌<◌, Bool, true, false, cond, List, [], ◌∷◌, ◌++◌, append_assoc, Some, arith}
use Rattle.std.specs.Prelude.{◌==◌, ◌&&◌, codes, if◌then◌else◌}
use Rattle.std.specs.Fmt.{decimal}
use Rattle.std.specs.Option.{option_and_then}
use Rattle.std.proofs.lemmas.Bool.{cond-true, cond-false, lt-ltb}
use Rattle.std.proofs.lemmas.List.Elements.{recursion_from_All}
use Rattle.wire.specs.Octets.{is_same}
use Rattle.wire.specs.Addr.{IsAddr}
use Rattle.wire.specs.declared.ip_udp.addr.Addr.{Addr}
use Rattle.wire.specs.declared.ip_udp.addr.Tunnel.{Tunnel}
use Rattle.wire.specs.declared.ip_udp.addr.Tunnel.TheVariants.{Vxlan, Geneve}
use Rattle.wire.specs.Vxlan.{IsVni}
use Rattle.endpoint_core.specs.Text.{addr_text, kind_text}
use Rattle.line_words.specs.Numbers.{number_of}
use Rattle.line_words.specs.Words.{behind, word}
use Rattle.line_words.proofs.Decimals.{IsWord, join, lacks, lacks_more, number_decimal, number_word}
use Rattle.line_words.proofs.Fronts.{behind_front, word_front}
use Rattle.line_words.proofs.Telling.{Tells, tells_all, tells_as, tells_each, tells_more, tells_none}
use Rattle.tunnel_traffic.specs.declared.rows.key.TunnelKey.{TunnelKey}
use Rattle.tunnel_traffic.specs.TrafficRows.{TrafficRow}
use Rattle.tunnel_traffic.specs.declared.rows.traffic.Traffic.{Traffic}
use Rattle.tunnel_traffic.specs.Lines.{flows_text, kind_name, remote_line, remote_others, tunnels_text, unknown_line, unknown_others}
use Rattle.tunnel_traffic.specs.Tables.{Tunnels, endpoint_key, no_tunnels}
use Rattle.tunnel_traffic.specs.Address.{addr_of}
use Rattle.tunnel_traffic.specs.Tables.{ArePackets, IsEndpoint, IsNetwork, IsRow, IsTold, IsTraffic}
use Rattle.tunnel_traffic.specs.Rows.{endpoint_of, flows_in, remote_in, row_in, rows_of, told_by, unknown_by, unknown_in, unknown_of, vni_numbered, vni_of}
use Rattle.tunnel_traffic.specs.declared.told.row.Row.TheVariants.{Unknown, UnknownOthers, Remote, RemoteOthers}
use Rattle.tunnel_traffic.proofs.Addresses.{IsOutside, addr_back, lacks_addr}
use Rattle.tunnel_traffic.proofs.Filling.{remote_others_row, remote_row, rows_told, told_back, unknown_others_row, unknown_row}

-- ---- words

feed : IsOutside 10
feed = record { low = omega arith }

space : IsOutside 32
space = record { low = omega arith }

addr_word : (a : Addr) → IsAddr a → IsWord (addr_text a)
addr_word a is = record { line = lacks_addr 10 feed a is; space = lacks_addr 32 space a is }

kind_word : (kind : Tunnel) → IsWord (kind_name kind)
kind_word Vxlan = record { line = refl; space = refl }
kind_word Geneve = record { line = refl; space = refl }

-- a kind and a colon before a word
endpoint_word : (kind : Tunnel) (w : List ℕ) → IsWord w → IsWord (kind_text kind ++ w)
endpoint_word Vxlan w is = record { line = lacks_more 10 (codes "vxlan:") w refl is.line; space = lacks_more 32 (codes "vxlan:") w refl is.space }
endpoint_word Geneve w is = record { line = lacks_more 10 (codes "geneve:") w refl is.line; space = lacks_more 32 (codes "geneve:") w refl is.space }

-- ---- networks that no segment has

vni_back : (vni : ℕ) → IsVni vni → vni_of (decimal vni) ≡ Some vni
vni_back vni is = ap (option_and_then vni_numbered) (number_decimal vni (omega (arith, is))) ∙ cond-true _ _ _ (lt-ltb vni 16777216 is)

-- from ADDRESS N
by_back : (kind : Tunnel) (vni : ℕ) (a : Addr) (count : ℕ) → IsAddr a → count < 2 ^ 64
    → unknown_by kind vni (codes "from" ++ 32 ∷ (addr_text a ++ 32 ∷ decimal count)) ≡ Some (Unknown (record { kind = kind; vni = vni; address = a }) count)
by_back kind vni a count is fits =
    let text : List ℕ = addr_text a ++ 32 ∷ decimal count in
    let w = addr_word a is in
    let first : addr_of (word text) ≡ Some a = ap addr_of (word_front (addr_text a) (decimal count) w.space) ∙ addr_back a is in
    let last : number_of (behind text) ≡ Some count = ap number_of (behind_front (addr_text a) (decimal count) w.space) ∙ number_decimal count fits in
    λ i. option_and_then (λ address. option_and_then (λ n. Some (Unknown (record { kind = kind; vni = vni; address = address }) n)) (last i)) (first i)

-- V, and then more
of_back : (kind : Tunnel) (vni : ℕ) (rest : List ℕ) → IsVni vni → unknown_of kind (decimal vni ++ 32 ∷ rest) ≡ unknown_by kind vni rest
of_back kind vni rest is =
    let text : List ℕ = decimal vni ++ 32 ∷ rest in
    let fits : vni < 2 ^ 64 = omega (arith, is) in
    let w = number_word vni fits in
    let first : vni_of (word text) ≡ Some vni = ap vni_of (word_front (decimal vni) rest w.space) ∙ vni_back vni is in
    let last : behind text ≡ rest = behind_front (decimal vni) rest w.space in
    λ i. option_and_then (λ v. unknown_by kind v (last i)) (first i)

kind_back : (kind : Tunnel) (rest : List ℕ) → unknown_in (kind_name kind ++ 32 ∷ rest) ≡ unknown_of kind rest
kind_back Vxlan rest = refl
kind_back Geneve rest = refl

unknown_told : (key : TunnelKey) (count : ℕ) → IsVni key.vni → IsAddr key.address → count < 2 ^ 64
    → row_in (codes "unknown" ++ 32 ∷ (kind_name key.kind ++ 32 ∷ (decimal key.vni ++ 32 ∷ (codes "from" ++ 32 ∷ (addr_text key.address ++ 32 ∷ decimal count))))) ≡ Some (Unknown key count)
unfolding row_in
unknown_told key count network address fits =
    let rest : List ℕ = codes "from" ++ 32 ∷ (addr_text key.address ++ 32 ∷ decimal count) in
    kind_back key.kind (decimal key.vni ++ 32 ∷ rest) ∙ of_back key.kind key.vni rest network ∙ by_back key.kind key.vni key.address count address fits

flat_unknown : (a k v f w n : List ℕ) → (a ++ 32 ∷ []) ++ k ++ (32 ∷ []) ++ v ++ (32 ∷ (f ++ 32 ∷ [])) ++ w ++ (32 ∷ []) ++ n ++ 10 ∷ []
    ≡ (a ++ 32 ∷ (k ++ 32 ∷ (v ++ 32 ∷ (f ++ 32 ∷ (w ++ 32 ∷ n))))) ++ 10 ∷ []
flat_unknown a k v f w n = simp append_assoc refl

tells_unknown : (row : TrafficRow) → IsRow IsNetwork ArePackets row → Tells row_in (unknown_line row) (unknown_row row)
unfolding unknown_line
tells_unknown row is =
    let key = row.key in
    let count = row.counts.came in
    let fits : key.vni < 2 ^ 64 = omega (arith, is.key.network) in
    let w = addr_word key.address is.key.address in
    let l4 : List ℕ = addr_text key.address ++ 32 ∷ decimal count in
    let l3 : List ℕ = codes "from" ++ 32 ∷ l4 in
    let l2 : List ℕ = decimal key.vni ++ 32 ∷ l3 in
    let l1 : List ℕ = kind_name key.kind ++ 32 ∷ l2 in
    tells_as _ _ (Unknown key count) (flat_unknown (codes "unknown") (kind_name key.kind) (decimal key.vni) (codes "from") (addr_text key.address) (decimal count))
    (join (codes "unknown") l1 refl (join (kind_name key.kind) l2 (kind_word key.kind).line (join (decimal key.vni) l3 (number_word key.vni fits).line
    (join (codes "from") l4 refl (join (addr_text key.address) (decimal count) w.line (number_word count is.count.fits).line)))))
    (unknown_told key count is.key.network is.key.address is.count.fits)

further_told : (count : ℕ) → count < 2 ^ 64 → row_in (codes "unknown others " ++ decimal count) ≡ Some (UnknownOthers count)
unfolding row_in
further_told count fits = ap (option_and_then (λ n. Some (UnknownOthers n))) (number_decimal count fits)

tells_further : (others : Traffic) → others.came < 2 ^ 64 → Tells row_in (unknown_others others) (unknown_others_row others)
unfolding unknown_others
tells_further others fits = by (others.came == 0)
  where
    by : (b : Bool) → Tells row_in (cond b [] (codes "unknown others " ++ decimal others.came ++ 10 ∷ [])) (cond b [] (UnknownOthers others.came ∷ []))
    by true = tells_none
    by false =
        tells_as _ _ (UnknownOthers others.came) refl
        (lacks_more 10 (codes "unknown others ") (decimal others.came) refl (number_word others.came fits).line) (further_told others.came fits)

-- ---- remote endpoints

-- in N OCTETS out N OCTETS
abbrev flows_words : Traffic → List ℕ
flows_words t = codes "in" ++ 32 ∷ (decimal t.came ++ 32 ∷ (decimal t.came_octets ++ 32 ∷ (codes "out" ++ 32 ∷ (decimal t.left ++ 32 ∷ decimal t.left_octets))))

flows_back : (t : Traffic) → IsTraffic t → flows_in (flows_words t) ≡ Some t
flows_back t is =
    let text : List ℕ = flows_words t in
    let l4 : List ℕ = decimal t.left ++ 32 ∷ decimal t.left_octets in
    let l3 : List ℕ = codes "out" ++ 32 ∷ l4 in
    let l2 : List ℕ = decimal t.came_octets ++ 32 ∷ l3 in
    let l1 : List ℕ = decimal t.came ++ 32 ∷ l2 in
    let w1 = (number_word t.came is.came).space in
    let w2 = (number_word t.came_octets is.came_octets).space in
    let w4 = (number_word t.left is.left).space in
    let b1 : behind text ≡ l1 = refl in
    let b2 : behind (behind text) ≡ l2 = behind_front (decimal t.came) l2 w1 in
    let b3 : behind (behind (behind text)) ≡ l3 = ap behind b2 ∙ behind_front (decimal t.came_octets) l3 w2 in
    let b4 : behind (behind (behind (behind text))) ≡ l4 = ap behind b3 in
    let r1 : number_of (word (behind text)) ≡ Some t.came = ap number_of (word_front (decimal t.came) l2 w1) ∙ number_decimal t.came is.came in
    let r2 : number_of (word (behind (behind text))) ≡ Some t.came_octets = ap (λ l. number_of (word l)) b2 ∙ ap number_of (word_front (decimal t.came_octets) l3 w2) ∙ number_decimal t.came_octets is.came_octets in
    let r3 : number_of (word (behind (behind (behind (behind text))))) ≡ Some t.left = ap (λ l. number_of (word l)) b4 ∙ ap number_of (word_front (decimal t.left) (decimal t.left_octets) w4) ∙ number_decimal t.left is.left in
    let r4 : number_of (behind (behind (behind (behind (behind text))))) ≡ Some t.left_octets = ap (λ l. number_of (behind l)) b4 ∙ ap number_of (behind_front (decimal t.left) (decimal t.left_octets) w4) ∙ number_decimal t.left_octets is.left_octets in
    λ i. option_and_then (λ came. option_and_then (λ came_octets. option_and_then (λ left. option_and_then (λ left_octets. Some (record { came = came; came_octets = came_octets; left = left; left_octets = left_octets })) (r4 i)) (r3 i)) (r2 i)) (r1 i)

endpoint_back : (kind : Tunnel) (a : Addr) → IsAddr a → endpoint_of (kind_text kind ++ addr_text a) ≡ Some (endpoint_key kind a)
endpoint_back Vxlan a is = ap (option_and_then (λ address. Some (endpoint_key Vxlan address))) (addr_back a is)
endpoint_back Geneve a is = ap (option_and_then (λ address. Some (endpoint_key Geneve address))) (addr_back a is)

no_others : (kind : Tunnel) (w : List ℕ) → is_same (kind_text kind ++ w) (codes "others") ≡ false
no_others Vxlan w = refl
no_others Geneve w = refl

-- KIND:ADDRESS, and then that
remote_back : (kind : Tunnel) (a : Addr) (t : Traffic) → IsAddr a → IsTraffic t → remote_in ((kind_text kind ++ addr_text a) ++ 32 ∷ flows_words t) ≡ Some (Remote (endpoint_key kind a) t)
remote_back kind a t is fits =
    let w : List ℕ = kind_text kind ++ addr_text a in
    let text : List ℕ = w ++ 32 ∷ flows_words t in
    let free = (endpoint_word kind (addr_text a) (addr_word a is)).space in
    let first : word text ≡ w = word_front w (flows_words t) free in
    let last : flows_in (behind text) ≡ Some t = ap flows_in (behind_front w (flows_words t) free) ∙ flows_back t fits in
    (λ i. option_and_then (λ traffic. if is_same (first i) (codes "others") then Some (RemoteOthers traffic) else option_and_then (λ key. Some (Remote key traffic)) (endpoint_of (first i))) (last i))
    ∙ cond-false _ _ _ (no_others kind (addr_text a))
    ∙ ap (option_and_then (λ key. Some (Remote key t))) (endpoint_back kind a is)

remote_told : (kind : Tunnel) (a : Addr) (t : Traffic) → IsAddr a → IsTraffic t
    → row_in (codes "remote" ++ 32 ∷ ((kind_text kind ++ addr_text a) ++ 32 ∷ flows_words t)) ≡ Some (Remote (endpoint_key kind a) t)
unfolding row_in
remote_told kind a t is fits = remote_back kind a t is fits

flows_line : (t : Traffic) → IsTraffic t → lacks 10 (flows_words t) ≡ true
flows_line t is =
    let l4 : List ℕ = decimal t.left ++ 32 ∷ decimal t.left_octets in
    let l3 : List ℕ = codes "out" ++ 32 ∷ l4 in
    let l2 : List ℕ = decimal t.came_octets ++ 32 ∷ l3 in
    let l1 : List ℕ = decimal t.came ++ 32 ∷ l2 in
    let h4 : lacks 10 l4 ≡ true = join (decimal t.left) (decimal t.left_octets) (number_word t.left is.left).line (number_word t.left_octets is.left_octets).line in
    let h3 : lacks 10 l3 ≡ true = join (codes "out") l4 refl h4 in
    let h2 : lacks 10 l2 ≡ true = join (decimal t.came_octets) l3 (number_word t.came_octets is.came_octets).line h3 in
    join (codes "in") l1 refl (join (decimal t.came) l2 (number_word t.came is.came).line h2)

flat_flows : (w d a b e l m : List ℕ) → w ++ ((32 ∷ (d ++ 32 ∷ [])) ++ a ++ (32 ∷ []) ++ b ++ (32 ∷ (e ++ 32 ∷ [])) ++ l ++ (32 ∷ []) ++ m ++ 10 ∷ [])
    ≡ (w ++ 32 ∷ (d ++ 32 ∷ (a ++ 32 ∷ (b ++ 32 ∷ (e ++ 32 ∷ (l ++ 32 ∷ m)))))) ++ 10 ∷ []
flat_flows w d a b e l m = simp append_assoc refl

flat_remote : (r k w d a b e l m : List ℕ) → (r ++ 32 ∷ []) ++ k ++ w ++ ((32 ∷ (d ++ 32 ∷ [])) ++ a ++ (32 ∷ []) ++ b ++ (32 ∷ (e ++ 32 ∷ [])) ++ l ++ (32 ∷ []) ++ m ++ 10 ∷ [])
    ≡ (r ++ 32 ∷ ((k ++ w) ++ 32 ∷ (d ++ 32 ∷ (a ++ 32 ∷ (b ++ 32 ∷ (e ++ 32 ∷ (l ++ 32 ∷ m))))))) ++ 10 ∷ []
flat_remote r k w d a b e l m = simp append_assoc refl

tells_remote : (row : TrafficRow) → IsRow IsEndpoint IsTraffic row → Tells row_in (remote_line row) (remote_row row)
unfolding remote_line
tells_remote row is =
    let kind = row.key.kind in
    let a = row.key.address in
    let t = row.counts in
    let w = endpoint_word kind (addr_text a) (addr_word a is.key.address) in
    let same : endpoint_key kind a ≡ row.key = λ i. record { kind = kind; vni = sym is.key.network i; address = a } in
    subst (λ key. Tells row_in (remote_line row) (Remote key t ∷ [])) same
    (tells_as (remote_line row) (codes "remote" ++ 32 ∷ ((kind_text kind ++ addr_text a) ++ 32 ∷ flows_words t)) (Remote (endpoint_key kind a) t)
    (flat_remote (codes "remote") (kind_text kind) (addr_text a) (codes "in") (decimal t.came) (decimal t.came_octets) (codes "out") (decimal t.left) (decimal t.left_octets))
    (join (codes "remote") ((kind_text kind ++ addr_text a) ++ 32 ∷ flows_words t) refl (join (kind_text kind ++ addr_text a) (flows_words t) w.line (flows_line t is.count)))
    (remote_told kind a t is.key.address is.count))

others_told : (t : Traffic) → IsTraffic t → row_in (codes "remote others" ++ 32 ∷ flows_words t) ≡ Some (RemoteOthers t)
unfolding row_in
others_told t is = ap (option_and_then (λ traffic. Some (RemoteOthers traffic))) (flows_back t is)

tells_others : (others : Traffic) → IsTraffic others → Tells row_in (remote_others others) (remote_others_row others)
unfolding remote_others
tells_others others is = by ((others.came == 0) && (others.left == 0))
  where
    by : (b : Bool) → Tells row_in (cond b [] (codes "remote others" ++ flows_text others)) (cond b [] (RemoteOthers others ∷ []))
    by true = tells_none
    by false =
        tells_as _ _ (RemoteOthers others)
        (flat_flows (codes "remote others") (codes "in") (decimal others.came) (decimal others.came_octets) (codes "out") (decimal others.left) (decimal others.left_octets))
        (join (codes "remote others") (flows_words others) refl (flows_line others is)) (others_told others is)

-- ---- all of it

tells_told : (t : Tunnels) → IsTold t → Tells row_in (tunnels_text t) (rows_told t)
tells_told t is =
    tells_more _ _ _ _
    (tells_more _ _ _ _
    (tells_more _ _ _ _ (tells_each (IsRow IsNetwork ArePackets) unknown_line unknown_row tells_unknown t.unknown.rows (recursion_from_All (IsRow IsNetwork ArePackets) t.unknown.rows is.unknown.each))
    (tells_further t.unknown.others is.unknown.others.fits))
    (tells_each (IsRow IsEndpoint IsTraffic) remote_line remote_row tells_remote t.remotes.rows (recursion_from_All (IsRow IsEndpoint IsTraffic) t.remotes.rows is.remotes.each)))
    (tells_others t.remotes.others is.remotes.others)

pub read_back : (t : Tunnels) → IsTold t → told_by no_tunnels (rows_of (tunnels_text t)) ≡ t
read_back t is = ap (told_by no_tunnels) (tells_all (tunnels_text t) (rows_told t) (tells_told t is)) ∙ told_back t is
