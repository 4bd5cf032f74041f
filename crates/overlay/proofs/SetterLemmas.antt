-- What the look-ups answer after a setter.
use Rattle.std.proofs.Common.{◌≡◌, ℕ, ◌-◌, ◌<◌, ◌≤◌, Bool, true, false, ◌&&◌, ◌||◌, cond, eqb, length, get_or, set, Option, None, Some, refl, sym, ap, ◌∙◌, arith, inl, inr}
use Rattle.std.proofs.lemmas.Bool.{cases_Bool, cond-true, cond-false, eqb-true, eqb-false}
use Rattle.std.proofs.lemmas.List.{get_or-set_same, get_or-set_other}
use Rattle.std.specs.FinMap.{empty, get, get-empty}
use Rattle.std.specs.Option.{option_and_then}
use Rattle.std.specs.Ordering.{nat_cmp}
use Rattle.std.specs.Prelude.{unwrap_or, is_some}
use Rattle.overlay.specs.declared.ports.member.Egress.{Egress}
use Rattle.overlay.specs.declared.ports.port.PortRule.{PortRule}
use Rattle.overlay.specs.Ports.{Ports, Members, port_at, no_port, members_at, has_segment, egress_at, member_set, with_up, with_member, with_segment, without_segment}
use Rattle.overlay.proofs.PlacesLemmas.{get-insert_at, get-remove_at}

-- a port of the members
pub get-member_set : (m : Members) (port : ℕ) (egress : Option Egress) (p : ℕ) → get (member_set m port egress) p ≡ cond (eqb p port) egress (get m p)
get-member_set m port (Some egress) p = get-insert_at m port egress p
get-member_set m port None p = get-remove_at m port p

-- the members of a segment, none where there is no segment
egress-of : (p : ℕ) (o : Option Members) → get (unwrap_or o empty) p ≡ option_and_then (λ (m : Members). get m p) o
egress-of p (Some m) = refl
egress-of p None = get-empty nat_cmp p

-- a look-up of what is behind a test
through : (p : ℕ) (b : Bool) (x y : Option Members) → option_and_then (λ (m : Members). get m p) (cond b x y) ≡ cond b (option_and_then (λ (m : Members). get m p) x) (option_and_then (λ (m : Members). get m p) y)
through p true x y = refl
through p false x y = refl

pub egress_at-with_member : (s : Ports) (vid port : ℕ) (egress : Option Egress) (v p : ℕ) → egress_at (with_member s vid port egress) v p ≡ cond (eqb v vid && eqb p port) egress (egress_at s v p)
egress_at-with_member s vid port egress v p =
    let members = unwrap_or (members_at s vid) empty in
    let look = option_and_then (λ (m : Members). get m p) in
    ap look (get-insert_at s.segments vid (member_set members port egress) v)
    ∙ through p (eqb v vid) (Some (member_set members port egress)) (members_at s v)
    ∙ ap (λ (o : Option Egress). cond (eqb v vid) o (egress_at s v p)) (get-member_set members port egress p ∙ ap (λ (o : Option Egress). cond (eqb p port) egress o) (egress-of p (members_at s vid)))
    ∙ both (eqb v vid) refl
  where
    both : (b : Bool) → eqb v vid ≡ b → cond b (cond (eqb p port) egress (egress_at s vid p)) (egress_at s v p) ≡ cond (b && eqb p port) egress (egress_at s v p)
    both true e = ap (λ (k : ℕ). cond (eqb p port) egress (egress_at s k p)) (sym (eqb-true v vid e))
    both false e = refl

pub members_at-with_segment : (s : Ports) (vid v : ℕ) → members_at (with_segment s vid) v ≡ cond (eqb v vid) (Some empty) (members_at s v)
members_at-with_segment s vid v = get-insert_at s.segments vid empty v

pub members_at-without_segment : (s : Ports) (vid v : ℕ) → members_at (without_segment s vid) v ≡ cond (eqb v vid) None (members_at s v)
members_at-without_segment s vid v = get-remove_at s.segments vid v

pub has_segment-with_member : (s : Ports) (vid port : ℕ) (egress : Option Egress) (v : ℕ) → has_segment (with_member s vid port egress) v ≡ (eqb v vid || has_segment s v)
has_segment-with_member s vid port egress v =
    ap is_some (get-insert_at s.segments vid (member_set (unwrap_or (members_at s vid) empty) port egress) v) ∙ one (eqb v vid)
  where
    one : (b : Bool) → is_some (cond b (Some (member_set (unwrap_or (members_at s vid) empty) port egress)) (members_at s v)) ≡ (b || has_segment s v)
    one true = refl
    one false = refl

pub port_at-with_up : (s : Ports) (port : ℕ) (up : Bool) (p : ℕ) → 1 ≤ port → port ≤ length s.ports → 1 ≤ p → port_at (with_up s port up) p ≡ cond (eqb p port) (record (port_at s p) { up = up }) (port_at s p)
port_at-with_up s port up p low high lowp = elim (cases_Bool (eqb p port)) [
  | inl same ↦
      let is = eqb-true p port same in
      let lt : port - 1 < length s.ports = omega arith in
      ap (λ (k : ℕ). get_or (set s.ports (port - 1) changed) (k - 1) no_port) is
      ∙ get_or-set_same s.ports (port - 1) changed no_port lt
      ∙ ap (λ (k : ℕ). let r : PortRule = record (port_at s k) { up = up } in r) (sym is)
      ∙ sym (cond-true (eqb p port) (record (port_at s p) { up = up }) (port_at s p) same)
  | inr other ↦
      let ne = eqb-false p port other in
      get_or-set_other s.ports (port - 1) (p - 1) changed no_port (λ e. ne (omega arith))
      ∙ sym (cond-false (eqb p port) (record (port_at s p) { up = up }) (port_at s p) other)
]
  where
    changed : PortRule
    changed = record (port_at s port) { up = up }
