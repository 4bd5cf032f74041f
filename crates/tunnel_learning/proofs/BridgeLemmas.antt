-- What the ports tell a bridge.
use Rattle.std.proofs.Common.{◌≡◌, ℕ, ◌+◌, ◌-◌, ◌<◌, ◌≤◌, ◌&&◌, not, Bool, List, [], ◌∷◌, cond, length, false, true, map, slice_index_or, suc, zero, Option, Some, None, refl, sym, ap, subst, ◌∙◌, arith, inl, inr}
use Rattle.std.specs.List.{filter, range_with_len}
use Rattle.std.specs.Option.{unwrap_or, option_and_then, is_some}
use Rattle.std.proofs.Math.ListN.{get_or-map}
use Rattle.std.proofs.lemmas.Bool.{and_right, cases_Bool, cond-true, cond-false}
use Rattle.std.proofs.lemmas.List.{get_or_past, length-map}
use Rattle.std.proofs.lemmas.List.FromFn.{length-range_with_len}
use Rattle.std.specs.Ordering.{nat_cmp}
use Rattle.std.specs.FinMap.{empty, get, get-empty}
use Rattle.filter_db.specs.Place.{same_place}
use Rattle.filter_db.specs.declared.place.Place.{Place}
use Rattle.filter_db.specs.declared.place.Place.TheVariants.{Local}
use Rattle.overlay.specs.declared.ports.port.PortRule.{PortRule}
use Rattle.overlay.specs.declared.ports.member.Egress.{Egress}
use Rattle.overlay.specs.Ports.{Ports, Members, members_at, no_port, is_up}
use Rattle.overlay.specs.Row.{Row, row_at, is_member, member_ports, is_up as row_is_up, serves as row_serves}
use Rattle.tunnel_learning.specs.declared.bridge.Bridge.{Bridge}
use Rattle.tunnel_learning.specs.Bridge.{config_of, is_local_outlet, is_up_at, local_places, serves}
use Rattle.tunnel_learning.specs.Members.{IsMember}

-- the state of a port, from the list of the states
pub is_up-ports : (s : Ports) (port : ℕ) → 1 ≤ port → is_up s port ≡ is_up_at (map (λ p. p.up) s.ports) port
is_up-ports s zero h = absurd (omega arith)
is_up-ports s (suc k) h =
    let same : suc k - 1 ≡ k = omega arith in
    ap (λ (i : ℕ). (slice_index_or s.ports i no_port).up) same ∙ sym (get_or-map (λ (p : PortRule). p.up) s.ports k no_port)

-- no port is there
pub is_up-past : (s : Ports) (port : ℕ) → length s.ports < port → is_up_at (map (λ p. p.up) s.ports) port ≡ false
is_up-past s zero h = absurd (omega arith)
is_up-past s (suc k) h =
    get_or-map (λ (p : PortRule). p.up) s.ports k no_port ∙ ap (λ (p : PortRule). p.up) (get_or_past s.ports k no_port (omega arith))

-- how a segment's frames leave, from its members
pub egress-members : (o : Option Members) (port : ℕ) → option_and_then (λ (members : Members). get members port) o ≡ get (unwrap_or o empty) port
egress-members None port = sym (get-empty nat_cmp port)
egress-members (Some members) port = refl

-- where frames may leave, by the row of the bridge's segment
pub row-serves : (b : Bridge) (row : Row) (port : ℕ) → 1 ≤ port → row ≡ row_at b.ports.now b.vid → row_serves row port ≡ serves (config_of b) port
row-serves b row port h is =
    ap (λ (r : Row). row_serves r port) is
    ∙ ap (λ (up : Bool). up && is_some (option_and_then (λ (members : Members). get members port) (members_at b.ports.now b.vid))) (is_up-ports b.ports.now port h)
    ∙ ap (λ (o : Option Egress). is_up_at (config_of b).up port && is_some o) (egress-members (members_at b.ports.now b.vid) port)

-- where frames may leave, of a member
pub member-serves : (b : Bridge) (row : Row) (port : ℕ) → IsMember row port → row ≡ row_at b.ports.now b.vid → row_is_up row port ≡ serves (config_of b) port
member-serves b row port there is =
    sym (ap (λ (m : Bool). row_is_up row port && m) there.2 ∙ and_true (row_is_up row port)) ∙ row-serves b row port there.0 is
  where
    and_true : (up : Bool) → (up && true) ≡ up
    and_true true = refl
    and_true false = refl

-- no frame leaves where there is no member
no-outlet : (b : Bridge) (row : Row) (from : Place) (port : ℕ) → row ≡ row_at b.ports.now b.vid → is_member row port ≡ false → is_local_outlet (config_of b) from (Local port) ≡ false
no-outlet b row from port is lacks =
    let member : is_some (get (config_of b).members port) ≡ false =
    ap is_some (sym (egress-members (members_at b.ports.now b.vid) port)) ∙ ap (λ (r : Row). is_member r port) (sym is) ∙ lacks in
    ap (λ (s : Bool). not (not s) && not (same_place (Local port) from)) (and_right (is_up_at (config_of b).up port) (is_some (get (config_of b).members port)) member)

-- a test that only elements pass that pass another
sifted : {X Y : Type 0} (p : Y → Bool) (f : X → Y) (q : X → Bool) (xs : List X) → ((x : X) → q x ≡ false → p (f x) ≡ false) → filter p (map f (filter q xs)) ≡ filter p (map f xs)
sifted p f q [] only = refl
sifted p f q (x ∷ xs) only = elim (cases_Bool (q x)) [
  | inl passes ↦
      ap (λ ys. filter p (map f ys)) (cond-true (q x) (x ∷ filter q xs) (filter q xs) passes)
      ∙ ap (λ ys. cond (p (f x)) (f x ∷ ys) ys) (sifted p f q xs only)
  | inr fails ↦
      ap (λ ys. filter p (map f ys)) (cond-false (q x) (x ∷ filter q xs) (filter q xs) fails)
      ∙ sifted p f q xs only
      ∙ sym (cond-false (p (f x)) (f x ∷ filter p (map f xs)) (filter p (map f xs)) (only x fails))
]

pub local-members : (b : Bridge) (row : Row) (from : Place) → row ≡ row_at b.ports.now b.vid
    → filter (is_local_outlet (config_of b) from) (map Local (member_ports row)) ≡ local_places (config_of b) from
local-members b row from is =
    let count : length row.ports ≡ length (config_of b).up = ap (λ (r : Row). length r.ports) is ∙ sym (length-map b.ports.now.ports (λ (p : PortRule). p.up)) in
    sifted (is_local_outlet (config_of b) from) Local (is_member row) (range_with_len 1 (length row.ports)) (λ port lacks. no-outlet b row from port is lacks)
    ∙ ap (λ (n : ℕ). filter (is_local_outlet (config_of b) from) (map Local (range_with_len 1 n))) count

-- each of them is there and a member
abbrev pub AreMembers : Row → List ℕ → Type 0
AreMembers row [] = Unit {0}
AreMembers row (port ∷ ports) = IsMember row port × AreMembers row ports

are-members : (row : Row) (a n : ℕ) → 1 ≤ a → a + n ≤ length row.ports + 1 → AreMembers row (filter (is_member row) (range_with_len a n))
are-members row a zero low high = tt
are-members row a (suc n) low high =
    let rest = are-members row (a + 1) n (omega arith) (omega arith) in
    elim (cases_Bool (is_member row a)) [
      | inl is ↦ subst (AreMembers row) (sym (cond-true (is_member row a) _ _ is)) ((low, omega arith, is), rest)
      | inr lacks ↦ subst (AreMembers row) (sym (cond-false (is_member row a) (a ∷ filter (is_member row) (range_with_len (a + 1) n)) _ lacks)) rest
    ]

pub all-members : (row : Row) → AreMembers row (member_ports row)
all-members row = are-members row 1 (length row.ports) (omega arith) (omega arith)

few-kept : (q : ℕ → Bool) (xs : List ℕ) → length (filter q xs) ≤ length xs
few-kept q [] = omega arith
few-kept q (x ∷ xs) = elim (cases_Bool (q x)) [
  | inl passes ↦ omega (arith, few-kept q xs, ap length (cond-true (q x) (x ∷ filter q xs) (filter q xs) passes))
  | inr fails ↦ omega (arith, few-kept q xs, ap length (cond-false (q x) (x ∷ filter q xs) (filter q xs) fails))
]

pub few-members : (row : Row) → length (member_ports row) ≤ length row.ports
few-members row = omega (arith, few-kept (is_member row) (range_with_len 1 (length row.ports)), length-range_with_len 1 (length row.ports))
