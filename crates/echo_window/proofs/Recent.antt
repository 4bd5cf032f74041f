-- Frames that an echo may be of at a moment.
use Rattle.std.proofs.Common.{◌≡◌, ℕ, ◌+◌, ◌<◌, Bool, true, false, nat_le, nat_lt, ◌&&◌, if◌then◌else◌, List, [], ◌∷◌, length, drop, refl, ap, ◌∙◌, arith}
use borrow.Author.Tests.{leb-true, ltb-true}
use Rattle.std.specs.List.{find}
use Rattle.echo_window.specs.Echo.{Arrival, Record, is_awaited, is_echo_of, is_elsewhere, recent}
use Rattle.echo_window.specs.Laid.{begins_past}
use Rattle.wire.specs.Octets.{is_same}

-- where the first came in early enough, all stay
pub recent-here : (w t : ℕ) (cs : List Arrival) → begins_past w t cs ≡ false → recent w t cs ≡ cs
recent-here w t [] h = refl
recent-here w t (c ∷ cs) h = rw h refl

-- else the first goes
pub recent-less : (w t : ℕ) (cs : List Arrival) → begins_past w t cs ≡ true → recent w t (drop 1 cs) ≡ recent w t cs
recent-less w t [] h = absurd cc
recent-less w t (c ∷ cs) h = rw h refl

pub past-some : (w t : ℕ) (cs : List Arrival) → begins_past w t cs ≡ true → 0 < length cs
past-some w t [] h = absurd cc
past-some w t (c ∷ cs) h = omega arith

-- a test that is false where a part is
never : (a b c d : Bool) → ((a && ((b && false) && c)) && d) ≡ false
never true true c d = refl
never true false c d = refl
never false b c d = refl

not_le : (q : Bool) (m n : ℕ) → n < m → nat_le m n ≡ q → q ≡ false
not_le true m n h e = absurd (omega (arith, h, leb-true m n e))
not_le false m n h e = refl

-- a record is no echo of a frame that came in too early
past-none : (w : ℕ) (r : Record) (c : Arrival) → nat_lt (c.moment + w) r.moment ≡ true → is_echo_of w r c ≡ false
past-none w r c h =
    let late : nat_le r.moment (c.moment + w) ≡ false = not_le (nat_le r.moment (c.moment + w)) r.moment (c.moment + w) (ltb-true (c.moment + w) r.moment h) refl in
    ap (λ q. (is_elsewhere r c && ((nat_le c.moment r.moment && q) && is_awaited r c)) && is_same c.frame r.frame) late
    ∙ never (is_elsewhere r c) (nat_le c.moment r.moment) (is_awaited r c) (is_same c.frame r.frame)

-- one more in front
in_front : (q : Bool) (w : ℕ) (r : Record) (c : Arrival) (cs rest : List Arrival) → nat_lt (c.moment + w) r.moment ≡ q → find (is_echo_of w r) rest ≡ find (is_echo_of w r) cs
    → find (is_echo_of w r) (if q then rest else c ∷ cs) ≡ find (is_echo_of w r) (c ∷ cs)
in_front true w r c cs rest h e = let none : is_echo_of w r c ≡ false = past-none w r c h in rw none e
in_front false w r c cs rest h e = refl

-- so the frame that one is an echo of is a recent one
pub recent-find : (w : ℕ) (r : Record) (cs : List Arrival) → find (is_echo_of w r) (recent w r.moment cs) ≡ find (is_echo_of w r) cs
recent-find w r [] = refl
recent-find w r (c ∷ cs) = in_front (nat_lt (c.moment + w) r.moment) w r c cs (recent w r.moment cs) refl (recent-find w r cs)
