-- The tunnels and the flood list of a segment that is read keep to the rules.
use Rattle.std.proofs.Common.{◌≡◌, ℕ, ◌≤◌, ◌+◌, ◌-◌, ◌++◌, ◌∷◌, [], Bool, true, false, ◌||◌, List, length, map, length-append, Some, Ok, codes, refl, sym, ap, subst, append_assoc, lit≤, arith}
use Rattle.std.specs.Prelude.{IsFalse, is_none, slice_index_or, decimal}
use Rattle.std.proofs.lemmas.Fmt.{length-decimal-le}
use Rattle.std.specs.List.{list_any}
use Rattle.std.proofs.lemmas.List.{append-nil}
use Rattle.toml.specs.Data.{Data, as_str}
use Rattle.wire.specs.declared.ip_udp.addr.Addr.{Addr}
use Rattle.wire.specs.declared.ip_udp.addr.Tunnel.{Tunnel}
use Rattle.wire.specs.declared.ip_udp.addr.Tunnel.TheVariants.{Vxlan, Geneve}
use Rattle.wire.specs.Addr.{IsAddr, same_kind}
use Rattle.overlay.specs.declared.flood.own.Own.{Own}
use Rattle.overlay.specs.declared.flood.remote.Remote.{Remote}
use Rattle.overlay.specs.First.{first}
use Rattle.overlay.specs.Flood.{Entries, add_faults}
use Rattle.overlay.specs.declared.underlay.tunnels.SegmentTunnel.{SegmentTunnel}
use Rattle.config_text.specs.declared.fault.SettingsFault.TheVariants.{BadValue}
use Rattle.config_text.specs.Address.{addr_of}
use Rattle.config_text.specs.Column.{one_of, any_addr}
use Rattle.config_text.specs.Table.{Place, path, required, only, defaulted, listed, limited_items, required_items, row_place, each, refuse_if}
use Rattle.config_text.proofs.Addresses.{then_some, addr_is}
use Rattle.overlay.specs.Rules.{IsWithin, EachBehind, IsTunnel, IsRemote}
use Rattle.overlay_config.specs.declared.tunnel.TunnelTable.{TunnelTable}
use Rattle.overlay_config.specs.Flood.{with_remote, put_remote}
use Rattle.overlay_config.specs.Tunnel.{TunnelRules, tunnel_of, flood_of, tunnels_of, tunnel_table_of, tunnel_item_of, tunnel_keys, tunnel_words, vni_number, group_number, flood_behind}
use Rattle.overlay_config.proofs.Readings.{bind_then, bind_ok, ok_is, refuse_ok, range_meets, required_meets, defaulted_meets, required_items_ok, Longer, Behind, from_none, each_meets, gathered_meets, listed_ok, listed_meets, when_ok, or_left}

pub addr_meets : (d : Data) (x : Addr) → any_addr d ≡ Some x → IsAddr x
addr_meets d x e = let a = then_some addr_of (as_str d) x e in addr_is a.0 x a.2

-- ---- one table

same_kind_refl : (kind : Tunnel) → same_kind kind kind ≡ true
same_kind_refl Vxlan = refl
same_kind_refl Geneve = refl

abbrev remote : Tunnel → Addr → Remote
remote kind addr = record { tunnel = kind; addr = addr }

remote_meets : (own : Own) (most : ℕ) (tunnel : SegmentTunnel) (earlier : Entries) (d : Data) (longer : Entries) → put_remote own most tunnel.kind earlier d ≡ Some longer → Longer (IsRemote own most (tunnel ∷ [])) earlier longer
remote_meets own most tunnel earlier d longer e =
    let kind = tunnel.kind in
    let a = then_some (with_remote own most kind earlier) (any_addr d) longer e in
    let k = when_ok (is_none (first (add_faults own most earlier kind a.0))) (earlier ++ remote kind a.0 ∷ []) longer a.2 in
    record { last = remote kind a.0; is = sym k.1; meets = record { kind = or_left (same_kind kind kind) false (same_kind_refl kind); taken = k.0; is_addr = addr_meets d a.0 a.1 } }

vni_meets : (d : Data) (x : ℕ) → vni_number d ≡ Some x → IsWithin 0 16777215 x
vni_meets d x e = range_meets 0 16777215 d x e

group_meets : (d : Data) (x : ℕ) → group_number d ≡ Some x → IsWithin 0 255 x
group_meets d x e = range_meets 0 255 d x e

group_zero : IsWithin 0 255 0
group_zero = (lit≤ tt, lit≤ tt)

pub tunnel_meets : (at : Place) (t : SegmentTunnel) → tunnel_of at ≡ Ok t → IsTunnel [] t
unfolding tunnel_of
tunnel_meets at t e =
    bind_then (required at (codes "vni") vni_number) _ t e (λ vni vni-is e0.
    bind_then (required at (codes "tunnel") (one_of tunnel_words)) _ t e0 (λ kind kind-is e1.
    subst (IsTunnel []) (ok_is _ t e1) (required_meets (IsWithin 0 16777215) vni_number vni_meets at (codes "vni") vni vni-is, group_zero, refl)))

-- a tunnel behind those before it, with the remotes that its table adds to the flood list
record IsTable (own : Own) (most : ℕ) (earlier : List TunnelTable) (t : TunnelTable) : Type 0 where
  vni : IsWithin 0 16777215 t.tunnel.vni
  group : IsWithin 0 255 t.tunnel.group
  kind : IsFalse (list_any (λ e. same_kind e.tunnel.kind t.tunnel.kind) earlier)
  count : ℕ
  added : Behind (IsRemote own most (t.tunnel ∷ [])) (flood_behind earlier) count t.flood
  room : count ≤ most - length (flood_behind earlier)

table_meets : (own : Own) (most : ℕ) (earlier : List TunnelTable) (at : Place) (t : TunnelTable) → tunnel_table_of own most earlier at ≡ Ok t → IsTable own most earlier t
unfolding tunnel_table_of
table_meets own most earlier at t e =
    bind_then (only at tunnel_keys) _ t e (λ known known-is e0.
    bind_then (required at (codes "kind") (one_of tunnel_words)) _ t e0 (λ kind kind-is e1.
    bind_then (refuse_if (list_any (λ s. same_kind s.tunnel.kind kind) earlier) (BadValue (path at (codes "kind")))) _ t e1 (λ other other-is e2.
    bind_then (required at (codes "vni") vni_number) _ t e2 (λ vni vni-is e3.
    bind_then (defaulted at (codes "group") group_number 0) _ t e3 (λ group group-is e4.
    bind_then (listed at (codes "flood") (most - length (flood_behind earlier)) (put_remote own most kind) (flood_behind earlier)) _ t e4 (λ flood flood-is e5.
    let tunnel : SegmentTunnel = record { kind = kind; vni = vni; group = group } in
    let l = listed_ok at (codes "flood") (most - length (flood_behind earlier)) (put_remote own most kind) (flood_behind earlier) flood flood-is in
    subst (IsTable own most earlier) (ok_is _ t e5) (record {
      vni = required_meets (IsWithin 0 16777215) vni_number vni_meets at (codes "vni") vni vni-is;
      group = defaulted_meets (IsWithin 0 255) group_number group_meets at (codes "group") 0 group group_zero group-is;
      kind = refuse_ok _ _ other other-is;
      count = length l.0;
      added = gathered_meets (IsRemote own most (tunnel ∷ [])) (put_remote own most kind) (remote_meets own most tunnel) (flood_behind earlier) l.0 flood l.2;
      room = l.1;
    })))))))

-- ---- one or two tables

module _ {A : Type 0} (P Q : List A → A → Type 0) (so : (earlier : List A) (x : A) → P earlier x → Q earlier x) where
  each_so : (earlier xs : List A) → EachBehind P earlier xs → EachBehind Q earlier xs
  each_so earlier [] are = tt
  each_so earlier (x ∷ xs) are = (so earlier x are.0, each_so (earlier ++ x ∷ []) xs are.1)

module _ {A : Type 0} (P : List A → A → Type 0) where
  each_append : (earlier xs ys : List A) → EachBehind P earlier xs → EachBehind P (earlier ++ xs) ys → EachBehind P earlier (xs ++ ys)
  each_append earlier [] ys are more = subst (λ l. EachBehind P l ys) (append-nil earlier) more
  each_append earlier (x ∷ xs) ys are more = (are.0, each_append (earlier ++ x ∷ []) xs ys are.1 (subst (λ l. EachBehind P l ys) (sym (append_assoc earlier (x ∷ []) xs)) more))

first_of_two : (a b : Bool) → (a || false) ≡ true → (a || (b || false)) ≡ true
first_of_two true b e = refl
first_of_two false b e = absurd cc

second_of_two : (a b : Bool) → (b || false) ≡ true → (a || (b || false)) ≡ true
second_of_two true b e = refl
second_of_two false b e = e

-- the remotes of either tunnel are remotes of both
by_first : (own : Own) (most : ℕ) (a b : SegmentTunnel) (earlier : Entries) (r : Remote) → IsRemote own most (a ∷ []) earlier r → IsRemote own most (a ∷ b ∷ []) earlier r
by_first own most a b earlier r is = record { kind = first_of_two (same_kind a.kind r.tunnel) (same_kind b.kind r.tunnel) is.kind; taken = is.taken; is_addr = is.is_addr }

by_second : (own : Own) (most : ℕ) (a b : SegmentTunnel) (earlier : Entries) (r : Remote) → IsRemote own most (b ∷ []) earlier r → IsRemote own most (a ∷ b ∷ []) earlier r
by_second own most a b earlier r is = record { kind = second_of_two (same_kind a.kind r.tunnel) (same_kind b.kind r.tunnel) is.kind; taken = is.taken; is_addr = is.is_addr }

-- the rules of a segment's tunnels and of its flood list
pub record AreTunnels (own : Own) (most : ℕ) (x : TunnelRules) : Type 0 where
  pub tunnel_count : IsWithin 1 2 (length x.0)
  pub tunnels : EachBehind IsTunnel [] x.0
  pub flood_count : length x.1 ≤ most
  pub flood : EachBehind (IsRemote own most x.0) [] x.1

one_of_two : IsWithin 1 2 1
one_of_two = (lit≤ tt, lit≤ tt)

two_of_two : IsWithin 1 2 2
two_of_two = (lit≤ tt, lit≤ tt)

-- of version 1
pub one_meets : (own : Own) (most : ℕ) (at : Place) (tunnel : SegmentTunnel) (flood : Entries) → IsTunnel [] tunnel → flood_of own most tunnel.kind at ≡ Ok flood → AreTunnels own most (tunnel ∷ [], flood)
one_meets own most at tunnel flood is e =
    let f = listed_meets (IsRemote own most (tunnel ∷ [])) (put_remote own most tunnel.kind) (remote_meets own most tunnel) at (codes "flood") most flood e in
    record { tunnel_count = one_of_two; tunnels = (is, tt); flood_count = f.0; flood = f.1 }

abbrev tunnels_in : List TunnelTable → TunnelRules
tunnels_in tables = (map (λ t. t.tunnel) tables, flood_behind tables)

tables_meet : (own : Own) (most : ℕ) (tables : List TunnelTable) → IsWithin 1 2 (length tables) → EachBehind (IsTable own most) [] tables → AreTunnels own most (tunnels_in tables)
tables_meet own most [] some are = absurd (omega (arith, some.0))
tables_meet own most (a ∷ []) some are =
    let f = from_none (IsRemote own most (a.tunnel ∷ [])) are.0.count a.flood are.0.added in
    let room : are.0.count ≤ most = omega (arith, are.0.room) in
    record { tunnel_count = one_of_two; tunnels = ((are.0.vni, are.0.group, refl), tt); flood_count = omega (arith, f.1, room); flood = f.0 }
tables_meet own most (a ∷ b ∷ []) some are =
    let one = are.0 in
    let two = are.1.0 in
    let f = from_none (IsRemote own most (a.tunnel ∷ [])) one.count a.flood one.added in
    let room : one.count ≤ most = omega (arith, one.room) in
    let more : two.count ≤ most - length a.flood = two.room in
    let both = a.tunnel ∷ b.tunnel ∷ [] in
    let front : EachBehind (IsRemote own most both) [] a.flood = each_so (IsRemote own most (a.tunnel ∷ [])) (IsRemote own most both) (by_first own most a.tunnel b.tunnel) [] a.flood f.0 in
    let back : EachBehind (IsRemote own most both) a.flood two.added.list = each_so (IsRemote own most (b.tunnel ∷ [])) (IsRemote own most both) (by_second own most a.tunnel b.tunnel) a.flood two.added.list two.added.meets in
    let is : b.flood ≡ a.flood ++ two.added.list = two.added.is in
    record {
      tunnel_count = two_of_two;
      tunnels = ((one.vni, one.group, refl), ((two.vni, two.group, two.kind), tt));
      flood_count = omega (arith, f.1, room, more, ap length is, length-append a.flood two.added.list, two.added.same_count);
      flood = subst (EachBehind (IsRemote own most both) []) (sym is) (each_append (IsRemote own most both) [] a.flood two.added.list front back);
    }
tables_meet own most (a ∷ b ∷ c ∷ tables) some are = absurd (omega (arith, some.1))

-- of version 2
pub tunnels_meet : (own : Own) (most : ℕ) (at : Place) (x : TunnelRules) → tunnels_of own most at ≡ Ok x → AreTunnels own most x
unfolding tunnels_of
tunnels_meet own most at x e =
    bind_then (required_items at (codes "tunnel") 2) _ x e (λ items items-is e0.
    bind_then (each (tunnel_table_of own most) (path at (codes "tunnel")) [] items) _ x e0 (λ tables tables-is e1.
    let q = from_none (IsTable own most) (length items) tables (each_meets (IsTable own most) (tunnel_table_of own most) (path at (codes "tunnel")) (table_meets own most) [] items tables tables-is) in
    let few = required_items_ok at (codes "tunnel") 2 items items-is in
    subst (AreTunnels own most) (ok_is _ x e1) (tables_meet own most tables (subst (IsWithin 1 2) (sym q.1) few) q.0)))

-- ---- the list of tables

-- the number of a table has room behind the list's name
pub item_fits : (at : Place) (name : List ℕ) (k : ℕ) → length at.prefix ≤ 13 → name ≡ path at (codes "tunnel") → k ≤ 9 → length name + length (decimal k) ≤ 20
item_fits at name k short is few =
    let digits : length (decimal k) ≤ 1 = length-decimal-le 1 k (lit≤ tt) (omega (arith, few)) (omega (arith, few)) in
    let six : length (codes "tunnel") ≡ 6 = refl in
    omega (arith, short, digits, ap length is, length-append at.prefix (codes "tunnel"), six)

-- a list of two
pub two_of : {X Y : Type 0} (f : X → Y) (l : List X) (x y : X) → 2 ≤ length l → length l ≤ 2 → x ≡ slice_index_or l 0 x → y ≡ slice_index_or l 1 y → map f l ≡ f x ∷ f y ∷ []
two_of f [] x y some few is next = absurd (omega (arith, some))
two_of f (a ∷ []) x y some few is next = absurd (omega (arith, some))
two_of f (a ∷ b ∷ []) x y some few is next =
    let first : x ≡ a = is in
    let second : y ≡ b = next in
    rw (first, second) refl
two_of f (a ∷ b ∷ c ∷ l) x y some few is next = absurd (omega (arith, few))

-- what two tables mean, in a list of this name
pub two_items : (own : Own) (most : ℕ) (at : Place) (items : List Data) (d e : Data) (a b : TunnelTable) (m n : List ℕ) → m ≡ path at (codes "tunnel") → n ≡ path at (codes "tunnel")
    → limited_items at (codes "tunnel") 2 ≡ Ok items → items ≡ d ∷ e ∷ []
    → tunnel_item_of own most [] m 1 d ≡ Ok a → tunnel_item_of own most (a ∷ []) n 2 e ≡ Ok b → tunnels_of own most at ≡ Ok (a.tunnel ∷ b.tunnel ∷ [], b.flood)
unfolding tunnels_of
two_items own most at items d e a b m n m-is n-is all is one two =
    let name = path at (codes "tunnel") in
    let p = bind_ok (row_place name 1 d) (tunnel_table_of own most []) a (subst (λ l. tunnel_item_of own most [] l 1 d ≡ Ok a) m-is one) in
    let q = bind_ok (row_place name 2 e) (tunnel_table_of own most (a ∷ [])) b (subst (λ l. tunnel_item_of own most (a ∷ []) l 2 e ≡ Ok b) n-is two) in
    rw (all, is, p.1, p.2, q.1, q.2) refl
