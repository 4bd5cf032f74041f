-- A port by its number, where there is one.
use Rattle.std.proofs.Common.{◌≡◌, ◌∙◌, refl, sym, ap, ℕ, zero, suc, ◌-◌, ◌≤◌, ◌<◌, arith, Bool, true, false, cond, not, ◌&&◌, ◌==◌, nat_le, [], ◌∷◌, map, length, get_or, Option, Some, None}
use Rattle.std.specs.Prelude.{is_some, unwrap_or}
use Rattle.std.specs.Option.{option_map, option_map_or}
use Rattle.std.proofs.Math.ListN.{get_or-map}
use Rattle.std.proofs.lemmas.Bool.{false≢true, leb-true, leb-false, le-leb}
use Rattle.std.proofs.lemmas.List.{get_or_past, length-set}
use Rattle.wire.specs.First.{first}
use Rattle.overlay.specs.Ports.{Ports, is_port, no_port, port_at, with_up}
use Rattle.overlay.specs.declared.ports.port.PortRule.{PortRule}
use Rattle.overlay.proofs.SetterLemmas.{port_at-with_up}
use Rattle.tunnel_learning.specs.Bridge.{is_up_at}
use Rattle.endpoint_core.specs.declared.state.fault.ChangeFault.{ChangeFault}
use Rattle.endpoint_core.specs.declared.state.fault.ChangeFault.TheVariants.{NoPort}
use Rattle.endpoint_core.specs.Change.{port_fault}
use Rattle.tenants_apart.specs.Own.{port_there}

-- what the number of a port says
pub in-range : (n port : ℕ) → is_port n port ≡ true → (1 ≤ port) × (port ≤ n)
in-range n port is = by (nat_le 1 port) (nat_le port n) refl refl is
  where
    by : (b c : Bool) → nat_le 1 port ≡ b → nat_le port n ≡ c → b && c ≡ true → (1 ≤ port) × (port ≤ n)
    by true true low high h = (leb-true 1 port low, leb-true port n high)
    by true false low high h = absurd (false≢true h)
    by false c low high h = absurd (false≢true h)

past-range : (n k : ℕ) → is_port n (suc k) ≡ false → n ≤ k
past-range n k other = by (nat_le (suc k) n) refl (sym (ap (λ (b : Bool). b && nat_le (suc k) n) (le-leb 1 (suc k) (omega arith))) ∙ other)
  where
    by : (b : Bool) → nat_le (suc k) n ≡ b → b ≡ false → n ≤ k
    by true is h = absurd (false≢true (sym h))
    by false is h = let less : n < suc k = leb-false (suc k) n is in omega (arith, less)

-- a port as it is looked up
pub at-there : (P : Ports) (k : ℕ) → port_at P (suc k) ≡ unwrap_or (port_there P (suc k)) no_port
at-there P k = by (is_port (length P.ports) (suc k)) refl
  where
    by : (b : Bool) → is_port (length P.ports) (suc k) ≡ b → port_at P (suc k) ≡ unwrap_or (cond b (Some (port_at P (suc k))) None) no_port
    by true is = refl
    by false is = get_or_past P.ports (suc k - 1) no_port (let past = past-range (length P.ports) k is in omega (arith, past))

pub at-same : (P Q : Ports) → ((port : ℕ) → port_there P port ≡ port_there Q port) → (port : ℕ) → port_at P port ≡ port_at Q port
at-same P Q same zero = at-there P 0 ∙ ap (λ (o : Option PortRule). unwrap_or o no_port) (same 1) ∙ sym (at-there Q 0)
at-same P Q same (suc k) = at-there P k ∙ ap (λ (o : Option PortRule). unwrap_or o no_port) (same (suc k)) ∙ sym (at-there Q k)

-- whether it is up
pub up-there : (P : Ports) (port : ℕ) → is_up_at (map (λ (r : PortRule). r.up) P.ports) port ≡ option_map_or (λ (r : PortRule). r.up) (port_there P port) false
up-there P zero = refl
up-there P (suc k) =
    get_or-map (λ (r : PortRule). r.up) P.ports k no_port
    ∙ ap (λ (i : ℕ). (get_or P.ports i no_port).up) (let same : k ≡ suc k - 1 = omega arith in same)
    ∙ ap (λ (r : PortRule). r.up) (at-there P k)
    ∙ by (port_there P (suc k))
  where
    by : (o : Option PortRule) → (unwrap_or o no_port).up ≡ option_map_or (λ (r : PortRule). r.up) o false
    by None = refl
    by (Some r) = refl

-- whether there is one
abbrev pub fault_there : Option PortRule → Option ChangeFault
fault_there o = first ((NoPort, not (is_some o)) ∷ [])

pub fault-there : (P : Ports) (port : ℕ) → port_fault (length P.ports) port ≡ fault_there (port_there P port)
fault-there P port = by (is_port (length P.ports) port)
  where
    by : (b : Bool) → first ((NoPort, not b) ∷ []) ≡ fault_there (cond b (Some (port_at P port)) None)
    by true = refl
    by false = refl

-- a port goes up or down
abbrev pub turned : Bool → PortRule → PortRule
turned up r = record r { up = up }

chosen : (b : Bool) (x y : PortRule) → (let o : Option PortRule = Some (cond b x y) in o) ≡ cond b (Some x) (Some y)
chosen true x y = refl
chosen false x y = refl

nowhere : (b : Bool) (f : PortRule → PortRule) → (let o : Option PortRule = None in o) ≡ cond b (option_map f None) None
nowhere true f = refl
nowhere false f = refl

pub there-with_up : (P : Ports) (port : ℕ) (up : Bool) (q : ℕ) → is_port (length P.ports) port ≡ true → port_there (with_up P port up) q ≡ cond (q == port) (option_map (turned up) (port_there P q)) (port_there P q)
there-with_up P port up q is =
    ap (λ (n : ℕ). cond (is_port n q) (Some (port_at (with_up P port up) q)) None) (length-set P.ports (port - 1) (turned up (port_at P port)))
    ∙ by (is_port (length P.ports) q) refl
  where
    by : (b : Bool) → is_port (length P.ports) q ≡ b → cond b (Some (port_at (with_up P port up) q)) None ≡ cond (q == port) (option_map (turned up) (cond b (Some (port_at P q)) None)) (cond b (Some (port_at P q)) None)
    by true there =
        ap Some (port_at-with_up P port up q (in-range (length P.ports) port is).0 (in-range (length P.ports) port is).1 (in-range (length P.ports) q there).0)
        ∙ chosen (q == port) (turned up (port_at P q)) (port_at P q)
    by false there = nowhere (q == port) (turned up)
