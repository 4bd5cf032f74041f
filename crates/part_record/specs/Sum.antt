-- Digests of SHA-256 (FIPS 180-4), and what they are of.
use Rattle.std.specs.Prelude.{◌≡◌, ℕ, ◌-◌, ◌^◌, List, [], length, min, take, Option, IfSome, Result, Ok, Err}
use Rattle.hex.specs.Hex.{IsBytes}
use Rattle.octet_sums.specs.Hashers.{Holds256}
use Rattle.octet_sums.specs.declared.sha256.hasher.Sha256.{Sha256}

-- a digest: 32 octets
pub record IsSum (sum : List ℕ) : Type 0 where
  pub size : length sum ≡ 32
  pub octets : IsBytes sum

-- a hasher of SHA-256 took these octets (FIPS 180-4, 6.2)
abbrev pub Took : Sha256 → List ℕ → Type 0
Took hasher octets = Holds256 hasher octets

-- the octets that a read took into the front of these
abbrev pub taken : {E : Type 0} → Result ℕ E → List ℕ → List ℕ
taken (Ok n) octets = take n octets
taken (Err fault) octets = []

-- how many octets these are, counted up to the greatest number of 64 bits
abbrev pub counted : List ℕ → ℕ
counted octets = min (2 ^ 64 - 1) (length octets)

-- where there is a hasher, it took these octets
abbrev pub MayHaveTaken : Option Sha256 → List ℕ → Type 0
MayHaveTaken hasher octets = IfSome hasher (λ h. Took h octets)

-- and this is their number
pub record HasTaken (hasher : Option Sha256) (number : ℕ) (octets : List ℕ) : Type 0 where
  pub digest : MayHaveTaken hasher octets
  pub count : number ≡ counted octets
