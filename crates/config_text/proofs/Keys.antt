-- The keys of a table, one after the other.
use Rattle.std.proofs.Common.{◌≡◌, ℕ, nat_eq, Bool, true, false, ◌&&◌, List, [], ◌∷◌, map, Bor, refl, sym, ap, ◌∙◌}
use Rattle.std.specs.List.{list_any}
use Rattle.std.specs.Cmp.Lexicographic.{pointwise}
use Rattle.std.specs.Prelude.{string_bytes}
use Rattle.toml.specs.View.{members_view}
use Rattle.toml.proofs.Views.{Entry}
use Rattle.config_text.specs.Table.{all_known}

pub any_now : (q : List ℕ) (ks : List (Bor (List ℕ))) → list_any (λ k. pointwise nat_eq q k.now) ks ≡ list_any (pointwise nat_eq q) (map (λ k. k.now) ks)
any_now q [] = refl
any_now q (k ∷ ks) = rw (any_now q ks)

-- what a test of the first key says of the members
first_known : (ks : List (Bor (List ℕ))) (key : List ℕ) (b : Bool) (e : Entry) (rest : List Entry) → b ≡ list_any (λ k. pointwise nat_eq key k.now) ks → key ≡ string_bytes e.0
    → all_known (map (λ k. k.now) ks) (members_view (e ∷ rest)) ≡ (b && all_known (map (λ k. k.now) ks) (members_view rest))
first_known ks key b e rest tested same = rw (tested, same, any_now (string_bytes e.0) ks) refl

-- a key that isn't known settles the answer
pub unknown_here : (ks : List (Bor (List ℕ))) (key : List ℕ) (b : Bool) (it : List Entry) (e : Entry) (rest : List Entry) (total : Bool) → it ≡ e ∷ rest → b ≡ list_any (λ k. pointwise nat_eq key k.now) ks → key ≡ string_bytes e.0 → b ≡ false
    → all_known (map (λ k. k.now) ks) (members_view it) ≡ total → false ≡ total
unknown_here ks key b it e rest total is tested same unknown so_far =
    let here : all_known (map (λ k. k.now) ks) (members_view it) ≡ false = ap (λ es. all_known (map (λ k. k.now) ks) (members_view es)) is ∙ first_known ks key b e rest tested same ∙ ap (λ x. x && all_known (map (λ k. k.now) ks) (members_view rest)) unknown in
    sym here ∙ so_far

-- a key that is known leaves the answer to the others
pub known_here : (ks : List (Bor (List ℕ))) (key : List ℕ) (b : Bool) (it : List Entry) (e : Entry) (rest : List Entry) (total : Bool) → it ≡ e ∷ rest → b ≡ list_any (λ k. pointwise nat_eq key k.now) ks → key ≡ string_bytes e.0 → b ≡ true
    → all_known (map (λ k. k.now) ks) (members_view it) ≡ total → all_known (map (λ k. k.now) ks) (members_view rest) ≡ total
known_here ks key b it e rest total is tested same known so_far =
    let here : all_known (map (λ k. k.now) ks) (members_view it) ≡ all_known (map (λ k. k.now) ks) (members_view rest) = ap (λ es. all_known (map (λ k. k.now) ks) (members_view es)) is ∙ first_known ks key b e rest tested same ∙ ap (λ x. x && all_known (map (λ k. k.now) ks) (members_view rest)) known in
    sym here ∙ so_far
