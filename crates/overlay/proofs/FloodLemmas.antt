-- A list without repeats: what its tests decide, and what adding to it and removing from it leave.
use Rattle.std.specs.Prelude.{is_some}
use Rattle.std.proofs.Common.{Option, ◌≡◌, ◌≢◌, ℕ, zero, suc, ◌<◌, ◌≤◌, Bool, true, false, not, ltb, [], ◌∷◌, ◌++◌, length, get_or, filter, Some, None, refl, sym, ap, ◌∙◌, arith, inl, inr}
use Rattle.std.specs.List.{position, position_or_len, remove}
use Rattle.std.proofs.lemmas.Bool.{cases_Bool, cases_order, and_parts, and_from, cond-true, cond-false, false≢true, false_from_ne_true, ltb-false}
use Rattle.std.proofs.lemmas.List.{get_or_default}
use Rattle.std.proofs.lemmas.List.Folds.{list_any_at, list_any_none}
use Rattle.std.proofs.lemmas.List.Quantifiers.{all_pairs_push, position-Some}
use Rattle.std.proofs.lemmas.List.Sums.{fails_before_first}
use Rattle.wire.proofs.OctetsLemmas.{is_same-true, is_same-refl}
use Rattle.wire.specs.declared.ip_udp.addr.Addr.{Addr}
use Rattle.wire.specs.declared.ip_udp.addr.Addr.TheVariants.{V4, V6}
use Rattle.wire.specs.declared.ip_udp.addr.Tunnel.{Tunnel}
use Rattle.wire.specs.declared.ip_udp.addr.Tunnel.TheVariants.{Vxlan, Geneve}
use Rattle.overlay.specs.Addr.{same_addr, same_kind}
use Rattle.overlay.specs.declared.flood.remote.Remote.{Remote}
use Rattle.overlay.specs.Flood.{Entries, IsWithoutRepeats, is_entry, holds, without}

-- ---- the test of an entry is equality

same_kind-true : (a b : Tunnel) → same_kind a b ≡ true → a ≡ b
same_kind-true Vxlan Vxlan h = refl
same_kind-true Vxlan Geneve h = absurd (cc)
same_kind-true Geneve Vxlan h = absurd (cc)
same_kind-true Geneve Geneve h = refl

same_kind-refl : (a : Tunnel) → same_kind a a ≡ true
same_kind-refl Vxlan = refl
same_kind-refl Geneve = refl

same_addr-true : (a b : Addr) → same_addr a b ≡ true → a ≡ b
same_addr-true (V4 a) (V4 b) h = ap V4 (is_same-true a b h)
same_addr-true (V4 a) (V6 b) h = absurd (cc)
same_addr-true (V6 a) (V4 b) h = absurd (cc)
same_addr-true (V6 a) (V6 b) h = ap V6 (is_same-true a b h)

same_addr-refl : (a : Addr) → same_addr a a ≡ true
same_addr-refl (V4 a) = is_same-refl a
same_addr-refl (V6 a) = is_same-refl a

abbrev remote : Tunnel → Addr → Remote
remote tunnel addr = record { tunnel = tunnel; addr = addr }

is_entry-true : (tunnel : Tunnel) (addr : Addr) (entry : Remote) → is_entry tunnel addr entry ≡ true → entry ≡ remote tunnel addr
is_entry-true tunnel addr entry h =
    let both = and_parts (same_kind entry.tunnel tunnel) (same_addr entry.addr addr) h in
    let kind = same_kind-true entry.tunnel tunnel both.0 in
    let address = same_addr-true entry.addr addr both.1 in
    λ i. record { tunnel = kind i; addr = address i }

is_entry-from : (tunnel : Tunnel) (addr : Addr) (entry : Remote) → entry ≡ remote tunnel addr → is_entry tunnel addr entry ≡ true
is_entry-from tunnel addr entry same =
    ap (is_entry tunnel addr) same ∙ and_from (same_kind tunnel tunnel) (same_addr addr addr) (same_kind-refl tunnel) (same_addr-refl addr)

-- ---- adding

pub IsWithoutRepeats-push : (flood : Entries) (tunnel : Tunnel) (addr : Addr) → IsWithoutRepeats flood → holds flood tunnel addr ≡ false → IsWithoutRepeats (flood ++ remote tunnel addr ∷ [])
IsWithoutRepeats-push flood tunnel addr distinct lacks =
    all_pairs_push (λ (a b : Remote). a ≢ b) flood (remote tunnel addr) distinct
    (λ k d lt same. false≢true (sym lacks ∙ list_any_at (is_entry tunnel addr) flood k d lt (is_entry-from tunnel addr (get_or flood k d) same)))

-- ---- finding

pub holds-found : (flood : Entries) (tunnel : Tunnel) (addr : Addr) (i : ℕ) → position (is_entry tunnel addr) flood ≡ Some i → holds flood tunnel addr ≡ true
holds-found flood tunnel addr i found =
    let d = remote tunnel addr in
    let at = position-Some (is_entry tunnel addr) flood i d found in
    list_any_at (is_entry tunnel addr) flood i d at.0 at.1

no_position : (p : Remote → Bool) (flood : Entries) → position p flood ≡ None → length flood ≤ position_or_len p flood
no_position p flood none = elim (cases_Bool (ltb (position_or_len p flood) (length flood))) [
  | inl within ↦ absurd (some_none (position_or_len p flood) (sym (cond-true _ _ _ within) ∙ none))
  | inr past ↦ ltb-false (position_or_len p flood) (length flood) past
]
  where
    some_none : (k : ℕ) → Some k ≡ None → ⊥
    some_none k h = cc

pub holds-not_found : (flood : Entries) (tunnel : Tunnel) (addr : Addr) → position (is_entry tunnel addr) flood ≡ None → holds flood tunnel addr ≡ false
holds-not_found flood tunnel addr none =
    let p = is_entry tunnel addr in
    let past = no_position p flood none in
    list_any_none p flood (λ k d lt. fails_before_first p flood k d (omega arith))

-- a list holds an entry exactly where the entry has a place
pub holds-place : (flood : Entries) (tunnel : Tunnel) (addr : Addr) → is_some (position (is_entry tunnel addr) flood) ≡ holds flood tunnel addr
holds-place flood tunnel addr = by (position (is_entry tunnel addr) flood) refl
  where
    by : (found : Option ℕ) → position (is_entry tunnel addr) flood ≡ found → is_some (position (is_entry tunnel addr) flood) ≡ holds flood tunnel addr
    by None is = ap is_some is ∙ sym (holds-not_found flood tunnel addr is)
    by (Some k) is = ap is_some is ∙ sym (holds-found flood tunnel addr k is)

-- ---- removing

filter-all : (p : Remote → Bool) (xs : Entries) → ((k : ℕ) (d : Remote) → k < length xs → p (get_or xs k d) ≡ true) → filter p xs ≡ xs
filter-all p [] all = refl
filter-all p (x ∷ xs) all =
    cond-true (p x) (x ∷ filter p xs) (filter p xs) (all 0 x (omega arith))
    ∙ ap (λ (rest : Entries). x ∷ rest) (filter-all p xs (λ k d lt. all (suc k) d (omega arith)))

-- the one that passes a test, taken out
remove-filter : (p : Remote → Bool) (xs : Entries) (i : ℕ) (e : Remote) → i < length xs → p (get_or xs i e) ≡ true → ((k : ℕ) (d : Remote) → k < length xs → (k ≡ i → ⊥) → p (get_or xs k d) ≡ false) → remove xs i ≡ filter (λ x. not (p x)) xs
remove-filter p [] i e lt here others = absurd (omega arith)
remove-filter p (x ∷ xs) zero e lt here others =
    sym (filter-all (λ y. not (p y)) xs (λ k d lt'. ap not (others (suc k) d (omega arith) (λ same. omega arith))))
    ∙ sym (cond-false (not (p x)) (x ∷ filter (λ y. not (p y)) xs) (filter (λ y. not (p y)) xs) (ap not here))
remove-filter p (x ∷ xs) (suc i) e lt here others =
    ap (λ (rest : Entries). x ∷ rest) (remove-filter p xs i e (omega arith) here (λ k d lt' ne. others (suc k) d (omega arith) (λ same. ne (omega arith))))
    ∙ sym (cond-true (not (p x)) (x ∷ filter (λ y. not (p y)) xs) (filter (λ y. not (p y)) xs) (ap not (others 0 x (omega arith) (λ same. omega arith))))

-- an entry stands at one place alone
pub remove-without : (flood : Entries) (tunnel : Tunnel) (addr : Addr) (i : ℕ) → IsWithoutRepeats flood → position (is_entry tunnel addr) flood ≡ Some i → (i < length flood) × (remove flood i ≡ without flood tunnel addr)
remove-without flood tunnel addr i distinct found = (at.0, remove-filter p flood i e at.0 at.1 others)
  where
    p : Remote → Bool
    p = is_entry tunnel addr

    e : Remote
    e = remote tunnel addr

    at : (i < length flood) × (is_entry tunnel addr (get_or flood i (remote tunnel addr)) ≡ true) × ((k : ℕ) → k < i → is_entry tunnel addr (get_or flood k (remote tunnel addr)) ≡ false)
    at = position-Some (is_entry tunnel addr) flood i (remote tunnel addr) found

    others : (k : ℕ) (d : Remote) → k < length flood → (k ≡ i → ⊥) → is_entry tunnel addr (get_or flood k d) ≡ false
    others k d lt ne = false_from_ne_true (is_entry tunnel addr (get_or flood k d)) (λ passes.
        let there : get_or flood k d ≡ e = is_entry-true tunnel addr (get_or flood k d) passes in
        let here : get_or flood i d ≡ e = get_or_default flood i d e at.0 ∙ is_entry-true tunnel addr (get_or flood i e) at.1 in
        elim (cases_order k i) [
          | inl same ↦ ne same
          | inr (inl below) ↦ distinct k i d below at.0 (there ∙ sym here)
          | inr (inr above) ↦ distinct i k d above lt (here ∙ sym there)
        ])
