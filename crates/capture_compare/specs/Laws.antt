-- A law of two captures that are compared. It states no standard.
use Rattle.std.specs.Prelude.{◌≡◌, ℕ, List}
use Rattle.record_match.specs.declared.clock.Clock.{Clock}
use Rattle.capture_compare.specs.Compared.{AreWhole}
use Rattle.capture_compare.specs.Sifted.{Sifting}
use Rattle.capture_compare.specs.declared.carried.key.Manner.{Manner}

-- a capture that is compared with itself on one clock, to its end, by any manner: all that was sent and isn't left aside was received, and
-- nothing else was; and as many were left aside on both sides
abbrev pub ItselfIsBoth : Type 0
ItselfIsBoth =
    (manner : Manner) (clock : Clock) (text : List ℕ) (c : Sifting) → clock.sent_delay ≡ clock.received_delay
    → AreWhole manner clock text text c
    → (c.both ≡ c.sent) × (c.both ≡ c.received) × (c.aside.sent ≡ c.aside.received)
