-- What ageing leaves of tables: to forget early what is dead changes nothing later. It serves proofs.
use Rattle.std.proofs.Common.{◌≡◌, ℕ, ◌-◌, ◌≤◌, Bool, true, false, cond, refl, sym, ap, ◌∙◌, List, Option, Some, None, arith, ltb}
use Rattle.std.specs.Option.{option_map}
use Rattle.std.specs.Cmp.{IsTotalOrder}
use Rattle.std.specs.Cmp.Lexicographic.{nat_list_cmp_total}
use Rattle.std.specs.FinMap.{get, get-retain_keys, same_map, IsAntisymmetric, slice_cmp-IsAntisymmetric, nat_cmp-IsAntisymmetric}
use Rattle.std.proofs.Math.Nat.{le_refl}
use Rattle.std.proofs.Math.Path.{fun_ext}
use Rattle.std.proofs.lemmas.Bool.Decides.{nat_tests}
use Rattle.std.proofs.lemmas.Bool.{false≢true}
use Rattle.filter_db.specs.declared.entry.Entry.{Entry}
use Rattle.filter_db.specs.Table.{Table, mac_cmp, kept, passes, live, is_live, is_young, nanoseconds}
use Rattle.filter_db.specs.Segment.{Segment, Segments, aged, aged_all}
use Rattle.filter_db.specs.Database.{Database, slot, segments_of}

-- addresses have a total order
pub mac_total : IsTotalOrder mac_cmp
mac_total = nat_list_cmp_total

-- only equal addresses tie
pub mac_apart : IsAntisymmetric mac_cmp
mac_apart = slice_cmp-IsAntisymmetric nat_cmp-IsAntisymmetric

-- tables in which each address stands for the same are equal
pub same_table : (m n : Table) → ((mac : List ℕ) → get m mac ≡ get n mac) → m ≡ n
same_table m n h = same_map mac_total mac_apart m n h

-- an entry, if it passes a test
abbrev pub sifted : (Entry → Bool) → Option Entry → Option Entry
sifted p None = None
sifted p (Some e) = cond (p e) (Some e) None

passes_sifted : (p : Entry → Bool) (o : Option Entry) → cond (passes p o) o None ≡ sifted p o
passes_sifted p None = refl
passes_sifted p (Some e) = refl

-- what `get` finds after `kept`
pub get-kept : (p : Entry → Bool) (m : Table) (mac : List ℕ) → get (kept p m) mac ≡ sifted p (get m mac)
unfolding kept
get-kept p m mac =
    get-retain_keys m (λ x. passes p (get m x)) mac (λ x e. ap (λ o. passes p (get m o)) (sym (mac_apart mac x e)))
    ∙ passes_sifted p (get m mac)

no_more : (e : Entry) (b : Bool) → (b ≡ true → false ≡ true) → None ≡ cond b (Some e) None
no_more e true k = absurd (false≢true (k refl))
no_more e false k = refl

sifted-sifted : (p q : Entry → Bool) → ((e : Entry) → q e ≡ true → p e ≡ true)
    → (o : Option Entry) → sifted q (sifted p o) ≡ sifted q o
sifted-sifted p q h None = refl
sifted-sifted p q h (Some e) = by (p e) (h e)
  where
    by : (a : Bool) → (q e ≡ true → a ≡ true) → sifted q (cond a (Some e) None) ≡ cond (q e) (Some e) None
    by true k = refl
    by false k = no_more e (q e) k

-- to keep more first changes nothing
pub kept-kept : (p q : Entry → Bool) → ((e : Entry) → q e ≡ true → p e ≡ true)
    → (m : Table) → kept q (kept p m) ≡ kept q m
kept-kept p q h m = same_table _ _ (λ mac.
    get-kept q (kept p m) mac ∙ ap (sifted q) (get-kept p m mac) ∙ sifted-sifted p q h (get m mac) ∙ sym (get-kept q m mac))

younger : (ageing t later last : ℕ) → t ≤ later → ltb (later - last) ageing ≡ true → ltb (t - last) ageing ≡ true
younger ageing t later last h y = grind (arith, nat_tests)

young_before : (ageing t later : ℕ) → t ≤ later → (last : Option ℕ)
    → is_young ageing later last ≡ true → is_young ageing t last ≡ true
young_before ageing t later h None y = refl
young_before ageing t later h (Some last) y = younger ageing t later last h y

-- what is dead may be forgotten early
pub live-live : (ageing t later : ℕ) (m : Table) → t ≤ later → live ageing later (live ageing t m) ≡ live ageing later m
live-live ageing t later m h = kept-kept (is_live ageing t) (is_live ageing later) (λ e. young_before ageing t later h e.last) m

-- the same of a segment
pub aged-aged : (t u : ℕ) (s : Segment) → t ≤ u → aged u (aged t s) ≡ aged u s
aged-aged t u s h =
    ap (λ (m : Table). let left : Segment = record { limit = s.limit; ageing = s.ageing; entries = m } in left)
    (live-live (nanoseconds s.ageing) t u s.entries h)

pub aged_later : (t u : ℕ) (o : Option Segment) → t ≤ u → option_map (aged u) (option_map (aged t) o) ≡ option_map (aged u) o
aged_later t u None h = refl
aged_later t u (Some s) h = ap Some (aged-aged t u s h)

-- and of all segments
pub aged_all-aged_all : (t u : ℕ) (segments : Segments) → t ≤ u → aged_all u (aged_all t segments) ≡ aged_all u segments
aged_all-aged_all t u segments h = fun_ext (λ vid. aged_later t u (segments vid) h)

-- a database has nothing that is dead at its moment
pub settled : (d : Database) → aged_all d.moment (segments_of d) ≡ segments_of d
settled d = aged_all-aged_all d.moment d.moment (slot d.segments) (le_refl d.moment)
