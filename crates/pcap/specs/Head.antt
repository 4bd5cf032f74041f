-- The first octets of an input. It states no standard.
use Rattle.std.specs.Prelude.{◌≡◌, ℕ, List, take, drop, Option, IfSome}
use Rattle.std.specs.Io.KnownBytes.{prepend_known}
use Rattle.pcap.specs.declared.kind.head.Head.{Head}

-- the octets that a head has
abbrev pub octets_in : Head → List ℕ
octets_in head = take head.length head.octets

-- these octets are the first 24 of what an input has, or all, where it tells that
abbrev pub IsHeadOf : Option (List ℕ) → List ℕ → Type 0
IsHeadOf rest head = IfSome rest (λ text. head ≡ take 24 text)

-- what an input still gives of whose head so many octets were handed out: the others, and what the input behind it has
abbrev pub ahead : Head → ℕ → Option (List ℕ) → Option (List ℕ)
ahead head at rest = prepend_known (drop at (octets_in head)) rest
