-- What the files of a run hold. It states no standard.
--     Held      of the ports' captures, of the underlay's and of the decision lines
--     AreUnwritten      nothing was written to the outputs of a run yet
--     AreHandedOn      the files hold all that was written
--     AreHeld      each of some texts stands in a file
use Rattle.std.specs.Prelude.{◌≡◌, ℕ, List, [], map, All, Option}
use Rattle.std.specs.List.{AllZip}
use Rattle.std.specs.Io.KnownBytes.{Keeps}
use Rattle.pcap.specs.Block.{Block}
use Rattle.pcap.specs.Sink.{Drain}
use Rattle.timeline.specs.Drains.{Drains}

-- the octets of each file, where it tells them
pub record Held : Type 0 where
  pub ports : List (Option (List ℕ))
  pub underlay : Option (List ℕ)
  pub decisions : Option (List ℕ)

-- all that was written to the outputs of a run, with what stood there before: what the files have, and then the blocks
abbrev pub written : Drains → Held
written outputs = record {
  ports = map (λ (d : Drain). d.written) outputs.ports;
  underlay = outputs.underlay.written;
  decisions = outputs.decisions.written;
}

-- what the files have of it
abbrev pub handed_on : List Block → Block → Block → Held
handed_on ports underlay decisions = record {
  ports = map (λ (b : Block). b.written) ports;
  underlay = underlay.written;
  decisions = decisions.written;
}

-- no block holds anything
pub record AreUnwritten (captures : List Block) (last lines : Block) : Type 0 where
  pub ports : All (λ (b : Block). b.held ≡ []) captures
  pub underlay : last.held ≡ []
  pub decisions : lines.held ≡ []

-- the files hold all that was written
pub record AreHandedOn (written held : Held) : Type 0 where
  pub ports : AllZip Keeps written.ports held.ports
  pub underlay : Keeps written.underlay held.underlay
  pub decisions : Keeps written.decisions held.decisions

module _ {F : Type 0} (contents : F → Option (List ℕ)) where
  -- some file holds these octets, or doesn't tell what it holds
  abbrev pub IsHeld : Option (List ℕ) → Type 0
  IsHeld text = (file : F) × (text ≡ contents file)

  -- the same of each of the files of a run
  pub record AreHeld (held : Held) : Type 0 where
    pub ports : All IsHeld held.ports
    pub underlay : IsHeld held.underlay
    pub decisions : IsHeld held.decisions
