-- The digests that the inputs of captures take of what they hand on. It states no standard.
--     IsTakenOf      that of one capture
--     AreTakenOf      those of some, one behind another
use Rattle.std.specs.Prelude.{◌≡◌, ℕ, List, Option}
use Rattle.std.specs.List.{AllZip}
use Rattle.std.specs.Io.KnownBytes.{prepend_known}
use Rattle.pcap.specs.Source.{Stream}
use Rattle.part_record.specs.Digests.{digest_of}
use Rattle.part_record.specs.Sum.{HasTaken}
use Rattle.part_record.specs.declared.digest_input.DigestInput.{DigestInput}
use Rattle.part_record.specs.declared.digests.CaptureDigest.{CaptureDigest}

-- by what an input tells, and how many reads of it were made and failed
module _ {R : Type 0} (remaining : R → Option (List ℕ)) (calls failures : R → ℕ) where
  -- the capture's input, which has left what the capture has and met as many reads and failures, handed on some octets, whichever
  -- they are, and this is their digest
  pub record IsTakenOf (capture : Stream) (digest : CaptureDigest) : Type 0 where
    pub input : DigestInput R
    pub rest : capture.supply.rest ≡ prepend_known capture.ahead (remaining input.input)
    pub reads : calls input.input ≡ capture.supply.calls
    pub faults : failures input.input ≡ capture.supply.failures
    pub digest_is : (octets : List ℕ) → HasTaken input.hasher input.octets octets → digest ≡ digest_of octets

  -- there is one of each of these captures
  abbrev pub AreTakenOf : List Stream → List CaptureDigest → Type 0
  AreTakenOf captures digests = AllZip IsTakenOf captures digests
