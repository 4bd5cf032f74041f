-- What is kept of the frames that came in.
use Rattle.std.proofs.Common.{◌≡◌, ℕ, ◌+◌, ◌≤◌, Bool, true, false, nat_le, ◌&&◌, List, [], ◌∷◌, ◌++◌, length, refl, ap, sym, ◌∙◌, arith, length-append}
use borrow.Author.Tests.{leb-true}
use Rattle.echo_window.specs.Echo.{Arrival, fits, newest, octets_of}

-- frames that fit stay
pub newest-fits : (cs : List Arrival) → fits cs ≡ true → newest cs ≡ cs
newest-fits [] h = refl
newest-fits (c ∷ cs) h = rw h

-- the earliest goes where they don't
pub newest-less : (c : Arrival) (cs : List Arrival) → fits (c ∷ cs) ≡ false → newest (c ∷ cs) ≡ newest cs
newest-less c cs h = rw h

-- one more behind them
pub octets-put : (cs : List Arrival) (c : Arrival) → octets_of (cs ++ c ∷ []) ≡ octets_of cs + length c.frame
octets-put [] c = omega (arith, length-append {A = ℕ})
octets-put (x ∷ cs) c = omega (arith, octets-put cs c, length-append {A = ℕ})

pub fits-put : (cs : List Arrival) (c : Arrival) → fits (cs ++ c ∷ []) ≡ (nat_le (length cs + 1) 4096 && nat_le (octets_of cs + length c.frame) 4194304)
fits-put cs c =
    let n : length (cs ++ c ∷ []) ≡ length cs + 1 = length-append cs (c ∷ []) in
    ap (λ k. nat_le k 4096 && nat_le (octets_of (cs ++ c ∷ [])) 4194304) n ∙ ap (λ k. nat_le (length cs + 1) 4096 && nat_le k 4194304) (octets-put cs c)

both_true : (a b : Bool) → (a && b) ≡ true → (a ≡ true) × (b ≡ true)
both_true true b h = (refl, h)
both_true false b h = absurd cc

pub fits-told : (cs : List Arrival) (c : Arrival) → fits (cs ++ c ∷ []) ≡ true → (length cs + 1 ≤ 4096) × (octets_of cs + length c.frame ≤ 4194304)
fits-told cs c h =
    let e = both_true (nat_le (length cs + 1) 4096) (nat_le (octets_of cs + length c.frame) 4194304) (sym (fits-put cs c) ∙ h) in
    (leb-true (length cs + 1) 4096 e.0, leb-true (octets_of cs + length c.frame) 4194304 e.1)
