-- The exceptions from the next hop.
use Rattle.std.proofs.Common.{◌≡◌, ℕ, ◌≤◌, ◌+◌, ◌∷◌, ◌++◌, [], ◌∙◌, Bool, true, false, cond, List, length, Some, refl, sym, ap, subst, arith}
use Rattle.std.specs.Prelude.{is_none}
use Rattle.std.specs.Ordering.{nat_cmp, eq_by_cmp}
use Rattle.std.specs.Cmp.Lexicographic.{slice_cmp, nat_list_cmp_total}
use Rattle.std.specs.FinMap.{empty, get, insert, len, contains_key, get-empty, get-insert, len-empty, len-insert, nat_cmp-IsAntisymmetric, slice_cmp-IsAntisymmetric}
use Rattle.std.proofs.lemmas.Map.Views.{tells_apart}
use Rattle.std.proofs.lemmas.Option.{none-some, same_Some}
use Rattle.wire.specs.declared.ip_udp.addr.Addr.{Addr}
use Rattle.wire.specs.Addr.{address}
use Rattle.overlay.specs.Settings.{Exceptions}
use Rattle.overlay_config.specs.Underlay.{with_exception, exceptions}
use Rattle.overlay.specs.Rules.{EachBehind, IsHop, AreHops}

-- one more at most
size : (hops : Exceptions) (octets mac : List ℕ) → len (insert hops octets mac) ≤ len hops + 1
size hops octets mac = by (contains_key hops octets) (len-insert nat_list_cmp_total hops octets mac)
  where
    by : (b : Bool) → len (insert hops octets mac) ≡ cond b (len hops) (len hops + 1) → len (insert hops octets mac) ≤ len hops + 1
    by true e = omega (arith, e)
    by false e = omega (arith, e)

with_size : (hops : Exceptions) (h : Addr × List ℕ) → len (with_exception hops h) ≤ len hops + 1
with_size hops h = by (is_none (get hops (address h.0)))
  where
    by : (b : Bool) → len (cond b (insert hops (address h.0) h.1) hops) ≤ len hops + 1
    by true = size hops (address h.0) h.1
    by false = omega arith

pub all_size : (hops : Exceptions) (hs : List (Addr × List ℕ)) → len (exceptions hops hs) ≤ len hops + length hs
all_size hops [] = omega arith
all_size hops (h ∷ hs) = omega (arith, with_size hops h, all_size (with_exception hops h) hs)

pub none_size : len (empty {X = List ℕ} {R = slice_cmp nat_cmp}) ≡ 0
none_size = len-empty (slice_cmp nat_cmp) (List ℕ)

no_hops : AreHops empty
no_hops octets mac e = absurd (none-some mac (sym (get-empty (slice_cmp nat_cmp) octets) ∙ e))

with_hop : (hops : Exceptions) (h : Addr × List ℕ) → AreHops hops → IsHop h → AreHops (insert hops (address h.0) h.1)
with_hop hops h are is octets mac e = by (eq_by_cmp (slice_cmp nat_cmp) octets (address h.0)) refl
  where
    at : cond (eq_by_cmp (slice_cmp nat_cmp) octets (address h.0)) (Some h.1) (get hops octets) ≡ Some mac
    at = sym (get-insert nat_list_cmp_total hops (address h.0) h.1 octets) ∙ e

    by : (b : Bool) → eq_by_cmp (slice_cmp nat_cmp) octets (address h.0) ≡ b → (a : Addr) × (address a ≡ octets) × IsHop (a, mac)
    by true same =
        let mac_is : h.1 ≡ mac = same_Some h.1 mac (sym (ap (λ (b : Bool). cond b (Some h.1) (get hops octets)) same) ∙ at) in
        (h.0, sym (tells_apart (slice_cmp-IsAntisymmetric nat_cmp-IsAntisymmetric) octets (address h.0) same), subst (λ m. IsHop (h.0, m)) mac_is is)
    by false differs = are octets mac (sym (ap (λ (b : Bool). cond b (Some h.1) (get hops octets)) differs) ∙ at)

with_one : (hops : Exceptions) (h : Addr × List ℕ) → AreHops hops → IsHop h → AreHops (with_exception hops h)
with_one hops h are is = by (is_none (get hops (address h.0)))
  where
    by : (b : Bool) → AreHops (cond b (insert hops (address h.0) h.1) hops)
    by true = with_hop hops h are is
    by false = are

-- exceptions that lead to one endpoint each
module _ (P : List (Addr × List ℕ) → Addr × List ℕ → Type 0) (leads : (earlier : List (Addr × List ℕ)) (h : Addr × List ℕ) → P earlier h → IsHop h) where
  all_hops : (hops : Exceptions) (earlier hs : List (Addr × List ℕ)) → AreHops hops → EachBehind P earlier hs → AreHops (exceptions hops hs)
  all_hops hops earlier [] are each = are
  all_hops hops earlier (h ∷ hs) are each = all_hops (with_exception hops h) (earlier ++ h ∷ []) hs (with_one hops h are (leads earlier h each.0)) each.1

  pub hops_are : (hs : List (Addr × List ℕ)) → EachBehind P [] hs → AreHops (exceptions empty hs)
  hops_are hs each = all_hops empty [] hs no_hops each
