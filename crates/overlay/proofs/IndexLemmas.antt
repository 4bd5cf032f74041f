-- What an index of the segments by their VNIs keeps, and what it finds.
use Rattle.std.proofs.Common.{◌≡◌, ℕ, ◌+◌, ◌-◌, ◌≤◌, ◌⊎◌, Bool, true, false, cond, eqb, List, Option, None, Some, Result, Ok, Err, not, [], ◌∷◌, refl, sym, ap, ◌∙◌, subst, arith, inl, inr}
use Rattle.std.specs.Prelude.{is_some, IfSome, OnOk, OnErr}
use Rattle.std.specs.List.{find as find_where}
use Rattle.std.specs.Option.{option_map_or}
use Rattle.std.specs.Cmp.{nat_cmp_total}
use Rattle.std.specs.Ordering.{nat_cmp}
use Rattle.std.specs.FinMap.{empty, get, insert, remove, len, entries, entries_sorted, get-empty, len-empty, len-insert, len-remove, len-entries, get-entries, nat_cmp-IsAntisymmetric}
use Rattle.std.proofs.lemmas.Bool.{false≢true, eq-eqb, eqb-true, cases_eq, ne_eqb, cond-true, cond-false, and_parts}
use Rattle.std.proofs.lemmas.Option.{none-some, same_Some}
use Rattle.overlay.proofs.PlacesLemmas.{get-insert_at, get-remove_at}
use Rattle.wire.specs.declared.ip_udp.addr.Tunnel.{Tunnel}
use Rattle.wire.specs.declared.ip_udp.addr.Tunnel.TheVariants.{Vxlan, Geneve}
use Rattle.wire.specs.Addr.{same_kind}
use Rattle.overlay.specs.UnderlayFlood.{Entries}
use Rattle.overlay.specs.Tunnels.{of_kind}
use Rattle.overlay.specs.declared.underlay.segment.Segment.{Segment}
use Rattle.overlay.specs.declared.underlay.tunnels.SegmentTunnel.{SegmentTunnel}
use Rattle.overlay.specs.Overlay.{Overlay, Segments, tunnel_of, has_tunnel, taken, are_free, flooding}
use Rattle.overlay.specs.Index.{Index, Indexes, leads_to, has_at, has_kind, listing, unlisting}
use Rattle.overlay.proofs.CountLemmas.{one_if, one_at, many_le, many-insert, many-remove, found_where, none_where}

-- ---- tests

spread : {X : Type 0} (f : X → Bool) (b : Bool) (x : X) (o : Option X) → option_map_or f (cond b (Some x) o) false ≡ cond b (f x) (option_map_or f o false)
spread f true x o = refl
spread f false x o = refl

spread_none : {X : Type 0} (f : X → Bool) (b : Bool) (o : Option X) → option_map_or f (cond b None o) false ≡ cond b false (option_map_or f o false)
spread_none f true o = refl
spread_none f false o = refl

-- with an entry more
agree_more : (vni n q vid : ℕ) (leads has tunnel : Bool) → leads ≡ has → tunnel ≡ eqb n vni → (vni ≡ n → has ≡ false) → (q ≡ vid → has ≡ false) → cond (eqb vni n) (eqb vid q) leads ≡ cond (eqb q vid) tunnel has
agree_more vni n q vid leads has tunnel same is free absent = elim (cases_eq vni n) [
  | inl here ↦ cond-true (eqb vni n) (eqb vid q) leads (eq-eqb vni n here) ∙ at_n here (cases_eq q vid)
  | inr other ↦ cond-false (eqb vni n) (eqb vid q) leads (ne_eqb vni n other) ∙ same ∙ elsewhere other (cases_eq q vid)
]
  where
    at_n : vni ≡ n → (q ≡ vid) ⊎ (q ≡ vid → ⊥) → eqb vid q ≡ cond (eqb q vid) tunnel has
    at_n here (inl it) = eq-eqb vid q (sym it) ∙ sym (eq-eqb n vni (sym here)) ∙ sym is ∙ sym (cond-true (eqb q vid) tunnel has (eq-eqb q vid it))
    at_n here (inr not_it) = ne_eqb vid q (λ e. not_it (sym e)) ∙ sym (free here) ∙ sym (cond-false (eqb q vid) tunnel has (ne_eqb q vid not_it))

    elsewhere : (vni ≡ n → ⊥) → (q ≡ vid) ⊎ (q ≡ vid → ⊥) → has ≡ cond (eqb q vid) tunnel has
    elsewhere other (inl it) = absent it ∙ sym (ne_eqb n vni (λ e. other (sym e))) ∙ sym is ∙ sym (cond-true (eqb q vid) tunnel has (eq-eqb q vid it))
    elsewhere other (inr not_it) = sym (cond-false (eqb q vid) tunnel has (ne_eqb q vid not_it))

-- with an entry less
agree_less : (vni n q vid : ℕ) (leads has : Bool) → leads ≡ has → (q ≡ vid → has ≡ eqb n vni) → (vni ≡ n → has ≡ eqb vid q) → cond (eqb vni n) false leads ≡ cond (eqb q vid) false has
agree_less vni n q vid leads has same at_vid at_vni = elim (cases_eq vni n) [
  | inl here ↦ cond-true (eqb vni n) false leads (eq-eqb vni n here) ∙ at_n here (cases_eq q vid)
  | inr other ↦ cond-false (eqb vni n) false leads (ne_eqb vni n other) ∙ same ∙ elsewhere other (cases_eq q vid)
]
  where
    at_n : vni ≡ n → (q ≡ vid) ⊎ (q ≡ vid → ⊥) → false ≡ cond (eqb q vid) false has
    at_n here (inl it) = sym (cond-true (eqb q vid) false has (eq-eqb q vid it))
    at_n here (inr not_it) = sym (ne_eqb vid q (λ e. not_it (sym e))) ∙ sym (at_vni here) ∙ sym (cond-false (eqb q vid) false has (ne_eqb q vid not_it))

    elsewhere : (vni ≡ n → ⊥) → (q ≡ vid) ⊎ (q ≡ vid → ⊥) → has ≡ cond (eqb q vid) false has
    elsewhere other (inl it) = at_vid it ∙ ne_eqb n vni (λ e. other (sym e)) ∙ sym (cond-true (eqb q vid) false has (eq-eqb q vid it))
    elsewhere other (inr not_it) = sym (cond-false (eqb q vid) false has (ne_eqb q vid not_it))

-- with the same entries
agree_same : (q vid : ℕ) (leads has tunnel : Bool) → leads ≡ has → (q ≡ vid → has ≡ tunnel) → leads ≡ cond (eqb q vid) tunnel has
agree_same q vid leads has tunnel same at_vid = elim (cases_eq q vid) [
  | inl it ↦ same ∙ at_vid it ∙ sym (cond-true (eqb q vid) tunnel has (eq-eqb q vid it))
  | inr not_it ↦ same ∙ sym (cond-false (eqb q vid) tunnel has (ne_eqb q vid not_it))
]

-- ---- what maps answer

module _ (kind : Tunnel) where
  has_at-insert : (m : Segments) (vid : ℕ) (g : Segment) (vni q : ℕ) → has_at kind (insert m vid g) vni q ≡ cond (eqb q vid) (has_tunnel kind vni g) (has_at kind m vni q)
  has_at-insert m vid g vni q = ap (λ (x : Option Segment). option_map_or (has_tunnel kind vni) x false) (get-insert_at m vid g q) ∙ spread (has_tunnel kind vni) (eqb q vid) g (get m q)

  has_at-remove : (m : Segments) (vid vni q : ℕ) → has_at kind (remove m vid) vni q ≡ cond (eqb q vid) false (has_at kind m vni q)
  has_at-remove m vid vni q = ap (λ (x : Option Segment). option_map_or (has_tunnel kind vni) x false) (get-remove_at m vid q) ∙ spread_none (has_tunnel kind vni) (eqb q vid) (get m q)

  has_at_there : (m : Segments) (vid : ℕ) (g : Segment) (vni q : ℕ) → get m vid ≡ Some g → q ≡ vid → has_at kind m vni q ≡ has_tunnel kind vni g
  has_at_there m vid g vni q there it = ap (λ (k : ℕ). has_at kind m vni k) it ∙ ap (λ (x : Option Segment). option_map_or (has_tunnel kind vni) x false) there

  has_at_absent : (m : Segments) (vid vni q : ℕ) → get m vid ≡ None → q ≡ vid → has_at kind m vni q ≡ false
  has_at_absent m vid vni q absent it = ap (λ (k : ℕ). has_at kind m vni k) it ∙ ap (λ (x : Option Segment). option_map_or (has_tunnel kind vni) x false) absent

  has_tunnel_one : (g : Segment) (t : SegmentTunnel) (vni : ℕ) → tunnel_of g kind ≡ Some t → has_tunnel kind vni g ≡ eqb t.vni vni
  has_tunnel_one g t vni one = ap (λ (x : Option SegmentTunnel). option_map_or (λ u. eqb u.vni vni) x false) one

  has_tunnel_none : (g : Segment) (vni : ℕ) → tunnel_of g kind ≡ None → has_tunnel kind vni g ≡ false
  has_tunnel_none g vni none = ap (λ (x : Option SegmentTunnel). option_map_or (λ u. eqb u.vni vni) x false) none

leads_to-insert : (index : Index) (n v vni q : ℕ) → leads_to (insert index n v) vni q ≡ cond (eqb vni n) (eqb v q) (leads_to index vni q)
leads_to-insert index n v vni q = ap (λ (x : Option ℕ). option_map_or (λ at. eqb at q) x false) (get-insert_at index n v vni) ∙ spread (λ at. eqb at q) (eqb vni n) v (get index vni)

leads_to-remove : (index : Index) (n vni q : ℕ) → leads_to (remove index n) vni q ≡ cond (eqb vni n) false (leads_to index vni q)
leads_to-remove index n vni q = ap (λ (x : Option ℕ). option_map_or (λ at. eqb at q) x false) (get-remove_at index n vni) ∙ spread_none (λ at. eqb at q) (eqb vni n) (get index vni)

leads_some : (x : Option ℕ) (v : ℕ) → option_map_or (λ at. eqb at v) x false ≡ true → x ≡ Some v
leads_some None v h = absurd (false≢true h)
leads_some (Some at) v h = ap Some (eqb-true at v h)

-- it leads nowhere
leads_none : (x : Option ℕ) → ((v : ℕ) → option_map_or (λ at. eqb at v) x false ≡ false) → x ≡ None
leads_none None h = refl
leads_none (Some at) h = absurd (false≢true (sym (h at) ∙ eq-eqb at at refl))

-- ---- what stays

pub absent_where : {X : Type 0} (x : Option X) → not (is_some x) ≡ true → x ≡ None
absent_where None h = refl
absent_where (Some y) h = absurd (false≢true h)

module _ (kind : Tunnel) where
  pub indexes_nothing : Indexes kind empty empty
  indexes_nothing = record {
    leads = λ vni vid. ap (λ (x : Option ℕ). option_map_or (λ at. eqb at vid) x false) (get-empty nat_cmp vni) ∙ sym (ap (λ (x : Option Segment). option_map_or (has_tunnel kind vni) x false) (get-empty nat_cmp vid));
    size = omega (arith, len-empty nat_cmp ℕ, len-empty nat_cmp Segment, len-entries (empty {X = Segment} {R = nat_cmp}), many_le nat_cmp_total (has_kind kind) (entries (empty {X = Segment} {R = nat_cmp})));
  }

  -- the VNI of no segment
  pub free_none : (m : Segments) (index : Index) (n : ℕ) → Indexes kind m index → ((q : ℕ) → has_at kind m n q ≡ false) → get index n ≡ None
  free_none m index n all free = leads_none (get index n) (λ v. all.leads n v ∙ free v)

  put_one : (m : Segments) (index : Index) (vid : ℕ) (g : Segment) (t : SegmentTunnel) → Indexes kind m index → get m vid ≡ None → tunnel_of g kind ≡ Some t → ((q : ℕ) → has_at kind m t.vni q ≡ false) → Indexes kind (insert m vid g) (insert index t.vni vid)
  put_one m index vid g t all absent one free = record {
    leads = λ vni q.
        leads_to-insert index t.vni vid vni q
        ∙ agree_more vni t.vni q vid (leads_to index vni q) (has_at kind m vni q) (has_tunnel kind vni g) (all.leads vni q) (has_tunnel_one kind g t vni one) (λ here. ap (λ (n : ℕ). has_at kind m n q) here ∙ free q) (has_at_absent kind m vid vni q absent)
        ∙ sym (has_at-insert kind m vid g vni q);
    size =
        let more : len (insert index t.vni vid) ≡ len index + 1 = len-insert nat_cmp_total index t.vni vid ∙ ap (λ (x : Option ℕ). cond (is_some x) (len index) (len index + 1)) (free_none m index t.vni all free) in
        let none : one_at (has_kind kind) (get m vid) ≡ 0 = ap (one_at (has_kind kind)) absent in
        let some : one_if (has_kind kind g) ≡ 1 = ap (λ (x : Option SegmentTunnel). one_if (is_some x)) one in
        omega (arith, all.size, many-insert nat_cmp_total (has_kind kind) m vid g);
  }

  put_none : (m : Segments) (index : Index) (vid : ℕ) (g : Segment) → Indexes kind m index → get m vid ≡ None → tunnel_of g kind ≡ None → Indexes kind (insert m vid g) index
  put_none m index vid g all absent none = record {
    leads = λ vni q.
        agree_same q vid (leads_to index vni q) (has_at kind m vni q) (has_tunnel kind vni g) (all.leads vni q) (λ it. has_at_absent kind m vid vni q absent it ∙ sym (has_tunnel_none kind g vni none))
        ∙ sym (has_at-insert kind m vid g vni q);
    size =
        let before : one_at (has_kind kind) (get m vid) ≡ 0 = ap (one_at (has_kind kind)) absent in
        let no : one_if (has_kind kind g) ≡ 0 = ap (λ (x : Option SegmentTunnel). one_if (is_some x)) none in
        omega (arith, all.size, many-insert nat_cmp_total (has_kind kind) m vid g);
  }

  -- with a segment more, whose tunnel is free
  pub indexes-insert : (m : Segments) (index : Index) (vid : ℕ) (g : Segment) (tunnel : Option SegmentTunnel) → tunnel_of g kind ≡ tunnel → Indexes kind m index → get m vid ≡ None → IfSome tunnel (λ t. (q : ℕ) → has_at kind m t.vni q ≡ false) → Indexes kind (insert m vid g) (listing index tunnel vid)
  indexes-insert m index vid g (Some t) one all absent free = put_one m index vid g t all absent one free
  indexes-insert m index vid g None none all absent free = put_none m index vid g all absent none

  -- the VNI of a segment's tunnel leads to it
  leads_there : (m : Segments) (index : Index) (vid : ℕ) (g : Segment) (t : SegmentTunnel) → Indexes kind m index → get m vid ≡ Some g → tunnel_of g kind ≡ Some t → get index t.vni ≡ Some vid
  leads_there m index vid g t all there one = leads_some (get index t.vni) vid (all.leads t.vni vid ∙ has_at_there kind m vid g t.vni vid there refl ∙ has_tunnel_one kind g t t.vni one ∙ eq-eqb t.vni t.vni refl)

  take_one : (m : Segments) (index : Index) (vid : ℕ) (g : Segment) (t : SegmentTunnel) → Indexes kind m index → get m vid ≡ Some g → tunnel_of g kind ≡ Some t → Indexes kind (remove m vid) (remove index t.vni)
  take_one m index vid g t all there one =
      let leads = leads_there m index vid g t all there one in
      record {
        leads = λ vni q.
            leads_to-remove index t.vni vni q
            ∙ agree_less vni t.vni q vid (leads_to index vni q) (has_at kind m vni q) (all.leads vni q)
            (λ it. has_at_there kind m vid g vni q there it ∙ has_tunnel_one kind g t vni one)
            (λ here. sym (all.leads vni q) ∙ ap (λ (n : ℕ). leads_to index n q) here ∙ ap (λ (x : Option ℕ). option_map_or (λ at. eqb at q) x false) leads)
            ∙ sym (has_at-remove kind m vid vni q);
        size =
            let less : len (remove index t.vni) ≡ len index - 1 = len-remove nat_cmp_total index t.vni ∙ ap (λ (x : Option ℕ). cond (is_some x) (len index - 1) (len index)) leads in
            let before : one_at (has_kind kind) (get m vid) ≡ 1 = ap (one_at (has_kind kind)) there ∙ ap (λ (x : Option SegmentTunnel). one_if (is_some x)) one in
            omega (arith, all.size, many-remove nat_cmp_total nat_cmp-IsAntisymmetric (has_kind kind) m vid);
      }

  take_none : (m : Segments) (index : Index) (vid : ℕ) (g : Segment) → Indexes kind m index → get m vid ≡ Some g → tunnel_of g kind ≡ None → Indexes kind (remove m vid) index
  take_none m index vid g all there none = record {
    leads = λ vni q.
        agree_same q vid (leads_to index vni q) (has_at kind m vni q) false (all.leads vni q) (λ it. has_at_there kind m vid g vni q there it ∙ has_tunnel_none kind g vni none)
        ∙ sym (has_at-remove kind m vid vni q);
    size =
        let before : one_at (has_kind kind) (get m vid) ≡ 0 = ap (one_at (has_kind kind)) there ∙ ap (λ (x : Option SegmentTunnel). one_if (is_some x)) none in
        omega (arith, all.size, many-remove nat_cmp_total nat_cmp-IsAntisymmetric (has_kind kind) m vid);
  }

  -- with a segment less
  pub indexes-remove : (m : Segments) (index : Index) (vid : ℕ) (g : Segment) (tunnel : Option SegmentTunnel) → tunnel_of g kind ≡ tunnel → Indexes kind m index → get m vid ≡ Some g → Indexes kind (remove m vid) (unlisting index tunnel)
  indexes-remove m index vid g (Some t) one all there = take_one m index vid g t all there one
  indexes-remove m index vid g None none all there = take_none m index vid g all there none

  -- with other facts of a segment, and the same tunnels
  pub indexes_same_tunnels : (m : Segments) (index : Index) (vid : ℕ) (g h : Segment) → tunnel_of h kind ≡ tunnel_of g kind → Indexes kind m index → get m vid ≡ Some g → Indexes kind (insert m vid h) index
  indexes_same_tunnels m index vid g h same all there = record {
    leads = λ vni q.
        agree_same q vid (leads_to index vni q) (has_at kind m vni q) (has_tunnel kind vni h) (all.leads vni q) (λ it. has_at_there kind m vid g vni q there it ∙ sym (ap (λ (x : Option SegmentTunnel). option_map_or (λ u. eqb u.vni vni) x false) same))
        ∙ sym (has_at-insert kind m vid h vni q);
    size =
        let before : one_at (has_kind kind) (get m vid) ≡ one_if (has_kind kind g) = ap (one_at (has_kind kind)) there in
        let kept : one_if (has_kind kind h) ≡ one_if (has_kind kind g) = ap (λ (x : Option SegmentTunnel). one_if (is_some x)) same in
        omega (arith, all.size, many-insert nat_cmp_total (has_kind kind) m vid h);
  }

  -- there is room for as many entries as there are segments
  pub index_size : (m : Segments) (index : Index) → Indexes kind m index → len index ≤ len m
  index_size m index all = omega (arith, all.size, len-entries m, many_le nat_cmp_total (has_kind kind) (entries m))

  -- ---- what is found

  -- the VID that it leads to is that of a segment
  pub found_there : (m : Segments) (index : Index) (vni vid : ℕ) → Indexes kind m index → get index vni ≡ Some vid → has_at kind m vni vid ≡ true
  found_there m index vni vid all leads = sym (all.leads vni vid) ∙ ap (λ (x : Option ℕ). option_map_or (λ at. eqb at vid) x false) leads ∙ eq-eqb vid vid refl

  pub found_by : (m : Segments) (index : Index) (vni vid : ℕ) (g : Segment) → Indexes kind m index → get index vni ≡ Some vid → get m vid ≡ Some g → find_where (λ e. has_tunnel kind vni e.1) (entries m) ≡ Some (vid, g)
  found_by m index vni vid g all leads there = by (find_where (λ e. has_tunnel kind vni e.1) (entries m)) refl
    where
      has : has_tunnel kind vni g ≡ true
      has = sym (has_at_there kind m vid g vni vid there refl) ∙ found_there m index vni vid all leads

      by : (found : Option (ℕ × Segment)) → find_where (λ e. has_tunnel kind vni e.1) (entries m) ≡ found → find_where (λ e. has_tunnel kind vni e.1) (entries m) ≡ Some (vid, g)
      by None is = absurd (false≢true (sym (none_where nat_cmp_total (has_tunnel kind vni) (entries m) vid g is (sym (get-entries m vid) ∙ there)) ∙ has))
      by (Some e) is =
          let it = found_where nat_cmp_total (has_tunnel kind vni) (entries m) e (entries_sorted m) is in
          let at : get m e.0 ≡ Some e.1 = get-entries m e.0 ∙ it.0 in
          let led : leads_to index vni e.0 ≡ true = all.leads vni e.0 ∙ has_at_there kind m e.0 e.1 vni e.0 at refl ∙ it.1 in
          let key : e.0 ≡ vid = same_Some e.0 vid (sym (leads_some (get index vni) e.0 led) ∙ leads) in
          let value : e.1 ≡ g = same_Some e.1 g (sym at ∙ ap (get m) key ∙ there) in
          is ∙ (λ i. Some (key i, value i))

  pub none_by : (m : Segments) (index : Index) (vni : ℕ) → Indexes kind m index → get index vni ≡ None → find_where (λ e. has_tunnel kind vni e.1) (entries m) ≡ None
  none_by m index vni all leads = by (find_where (λ e. has_tunnel kind vni e.1) (entries m)) refl
    where
      by : (found : Option (ℕ × Segment)) → find_where (λ e. has_tunnel kind vni e.1) (entries m) ≡ found → find_where (λ e. has_tunnel kind vni e.1) (entries m) ≡ None
      by None is = is
      by (Some e) is =
          let it = found_where nat_cmp_total (has_tunnel kind vni) (entries m) e (entries_sorted m) is in
          let at : get m e.0 ≡ Some e.1 = get-entries m e.0 ∙ it.0 in
          let led : leads_to index vni e.0 ≡ true = all.leads vni e.0 ∙ has_at_there kind m e.0 e.1 vni e.0 at refl ∙ it.1 in
          absurd (none-some e.0 (sym leads ∙ leads_some (get index vni) e.0 led))

  -- where no segment is found, none has the VNI
  pub none_has : (m : Segments) (vni : ℕ) → find_where (λ e. has_tunnel kind vni e.1) (entries m) ≡ None → (q : ℕ) → has_at kind m vni q ≡ false
  none_has m vni none q = by (get m q) refl
    where
      by : (x : Option Segment) → get m q ≡ x → has_at kind m vni q ≡ false
      by None is = ap (λ (x : Option Segment). option_map_or (has_tunnel kind vni) x false) is
      by (Some g) is = ap (λ (x : Option Segment). option_map_or (has_tunnel kind vni) x false) is ∙ none_where nat_cmp_total (has_tunnel kind vni) (entries m) q g none (sym (get-entries m q) ∙ is)

  -- a VNI leads somewhere exactly where a segment has it
  pub taken_by : (m : Segments) (index : Index) (vni : ℕ) → Indexes kind m index → is_some (get index vni) ≡ is_some (find_where (λ e. has_tunnel kind vni e.1) (entries m))
  taken_by m index vni all = by (get index vni) refl
    where
      by : (x : Option ℕ) → get index vni ≡ x → is_some (get index vni) ≡ is_some (find_where (λ e. has_tunnel kind vni e.1) (entries m))
      by None is = ap is_some is ∙ sym (ap is_some (none_by m index vni all is))
      by (Some vid) is = at (get m vid) refl
        where
          at : (x : Option Segment) → get m vid ≡ x → is_some (get index vni) ≡ is_some (find_where (λ e. has_tunnel kind vni e.1) (entries m))
          at None absent = absurd (false≢true (sym (has_at_absent kind m vid vni vid absent refl) ∙ found_there m index vni vid all is))
          at (Some g) there = ap is_some is ∙ sym (ap is_some (found_by m index vni vid g all is there))

  -- a VID that it leads to is that of a segment
  pub found_somewhere : (m : Segments) (index : Index) (vni vid : ℕ) → Indexes kind m index → get index vni ≡ Some vid → get m vid ≡ None → ⊥
  found_somewhere m index vni vid all leads absent = false≢true (sym (has_at_absent kind m vid vni vid absent refl) ∙ found_there m index vni vid all leads)

  pub indexes_as : (m n : Segments) (index other : Index) → m ≡ n → index ≡ other → Indexes kind n other → Indexes kind m index
  indexes_as m n index other same same_index all = subst (λ (l : Segments). Indexes kind l index) (sym same) (subst (λ (j : Index). Indexes kind n j) (sym same_index) all)

  -- ---- tunnels that are free

  same_kind_is : (a b : Tunnel) → same_kind a b ≡ true → a ≡ b
  same_kind_is Vxlan Vxlan h = refl
  same_kind_is Vxlan Geneve h = absurd (false≢true h)
  same_kind_is Geneve Vxlan h = absurd (false≢true h)
  same_kind_is Geneve Geneve h = refl

  pub free_of : (S : Overlay) (tunnels : List SegmentTunnel) → are_free S tunnels ≡ true → IfSome (of_kind kind tunnels) (λ t. (q : ℕ) → has_at kind S.segments t.vni q ≡ false)
  free_of S [] free = tt
  free_of S (t ∷ tunnels) free = by (same_kind t.kind kind) refl (free_of S tunnels (and_parts _ _ free).1)
    where
      by : (b : Bool) → same_kind t.kind kind ≡ b → IfSome (of_kind kind tunnels) (λ u. (q : ℕ) → has_at kind S.segments u.vni q ≡ false) → IfSome (cond (same_kind t.kind kind) (Some t) (of_kind kind tunnels)) (λ u. (q : ℕ) → has_at kind S.segments u.vni q ≡ false)
      by true same rest =
          let none : find_where (λ e. has_tunnel kind t.vni e.1) (entries S.segments) ≡ None = absent_where _ (subst (λ (k : Tunnel). not (taken S k t.vni) ≡ true) (same_kind_is t.kind kind same) (and_parts _ _ free).0) in
          rw same (none_has S.segments t.vni none)
      by false other rest = rw other rest

  pub free_listed : (S : Overlay) (index : Index) (tunnel : Option SegmentTunnel) → Indexes kind S.segments index → IfSome tunnel (λ t. (q : ℕ) → has_at kind S.segments t.vni q ≡ false) → IfSome tunnel (λ t. get index t.vni ≡ None)
  free_listed S index None all free = tt
  free_listed S index (Some t) all free = free_none S.segments index t.vni all free

  -- ---- flood lists

  indexes_flooding : (m : Segments) (index : Index) (vid : ℕ) (flood : Entries) → Indexes kind m index → Indexes kind (flooding m vid flood) index
  indexes_flooding m index vid flood all = by (get m vid) refl
    where
      by : (x : Option Segment) → get m vid ≡ x → Indexes kind (option_map_or (λ g. insert m vid (record g { flood = flood })) (get m vid) m) index
      by None absent = rw absent all
      by (Some g) there = rw there (indexes_same_tunnels m index vid g (record g { flood = flood }) refl all there)

  pub indexes_flood : {T E : Type 0} (r : Result T E) (m new : Segments) (index : Index) (vid : ℕ) (flood : Entries) → Indexes kind m index → OnOk r (new ≡ flooding m vid flood) → OnErr r (new ≡ m) → Indexes kind new index
  indexes_flood (Ok x) m new index vid flood all changed same = indexes_as new (flooding m vid flood) index index changed refl (indexes_flooding m index vid flood all)
  indexes_flood (Err e) m new index vid flood all changed same = indexes_as new m index index same refl all
