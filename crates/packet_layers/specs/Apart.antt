-- A text that is taken apart from both ends: heads come off its front and tails off its end, and the payload is what is
-- left between them. It states no standard.
use Rattle.std.specs.Prelude.{ℕ, ◌+◌, nat_lt, if◌then◌else◌, List, [], ◌∷◌, ◌++◌, length, map, take, drop}
use Rattle.std.specs.List.{concat}
use Rattle.wire.specs.IpParts.{Parts}
use Rattle.packet_layers.specs.declared.kind.HeadKind.{HeadKind}
use Rattle.packet_layers.specs.declared.kind.HeadKind.TheVariants.{Ether}

-- octets of the text, and how many stand before them
pub record Span : Type 0 where
  pub place : ℕ
  pub octets : List ℕ

-- the octets of a header, or of a part of one
pub record Head : Type 0 where
  pub kind : HeadKind
  pub place : ℕ
  pub octets : List ℕ

-- a text of which headers and tails are taken off
pub record Apart : Type 0 where
  -- from the front on
  pub heads : List Head
  pub payload : Span
  -- from the payload on, so the innermost first
  pub tails : List Span

-- no octets
abbrev pub no_span : Span
no_span = record { place = 0; octets = [] }

-- what stands in a free place of a list of heads
abbrev pub no_head : Head
no_head = record { kind = Ether; place = 0; octets = [] }

-- a text of which nothing is taken off
abbrev pub whole : List ℕ → Apart
whole b = record { heads = []; payload = record { place = 0; octets = b }; tails = [] }

-- a tail, where it has octets
abbrev pub tail_at : ℕ → List ℕ → List Span
tail_at place t = if nat_lt 0 (length t) then record { place = place; octets = t } ∷ [] else []

-- the payload is a head, another payload and a tail, side by side
abbrev pub split : HeadKind → Parts → Apart → Apart
split kind v a = record {
  heads = a.heads ++ record { kind = kind; place = a.payload.place; octets = v.head } ∷ [];
  payload = record { place = a.payload.place + length v.head; octets = v.payload };
  tails = tail_at (a.payload.place + length v.head + length v.payload) v.tail ++ a.tails;
}

-- a text of n octets and what stands behind
abbrev pub front : ℕ → List ℕ → Parts
front n b = record { head = take n b; payload = drop n b; tail = [] }

-- the first n octets of the payload come off as a head
abbrev pub put : HeadKind → ℕ → Apart → Apart
put kind n a = split kind (front n a.payload.octets) a

-- all parts side by side
abbrev pub joined : Apart → List ℕ
joined a = concat (map (λ h. h.octets) a.heads) ++ (a.payload.octets ++ concat (map (λ t. t.octets) a.tails))
