-- The digests of some captures, and of one more.
use Rattle.std.proofs.Common.{◌≡◌, ℕ, ◌+◌, ◌<◌, List, [], ◌∷◌, ◌++◌, length, take, get_or, Option, Some, None, IfSome, subst, sym}
use Rattle.std.proofs.lemmas.List.{take_more}
use Rattle.std.proofs.lemmas.Slice.Zip.{all_zipped_more}
use Rattle.pcap.specs.Source.{Stream}
use Rattle.std.specs.Io.KnownBytes.{prepend_known}
use Rattle.part_record.specs.Digests.{digest_of}
use Rattle.part_record.specs.Sum.{HasTaken}
use Rattle.part_record.specs.Taken.{AreTakenOf, IsTakenOf}
use Rattle.part_record.specs.declared.digest_input.DigestInput.{DigestInput}
use Rattle.part_record.specs.declared.digests.CaptureDigest.{CaptureDigest}

module _ {R : Type 0} (remaining : R → Option (List ℕ)) (calls failures : R → ℕ) where
  -- what an input took, where it takes a digest
  pub told : (capture : Stream) (input : DigestInput R) (digest : Option CaptureDigest)
      → capture.supply.rest ≡ prepend_known capture.ahead (remaining input.input)
      → calls input.input ≡ capture.supply.calls → failures input.input ≡ capture.supply.failures
      → IfSome digest (λ d. (octets : List ℕ) → HasTaken input.hasher input.octets octets → d ≡ digest_of octets)
      → IfSome digest (λ d. IsTakenOf remaining calls failures capture d)
  told capture input None rest reads faults h = tt
  told capture input (Some d) rest reads faults h = record { input = input; rest = rest; reads = reads; faults = faults; digest_is = h }

  -- one more, where this capture is the one at this place
  pub one_more : (captures : List Stream) (digests : List CaptureDigest) (capture : Stream) (next : CaptureDigest) (index : ℕ)
      → index < length captures → (d : Stream) × (capture ≡ get_or captures index d) → IsTakenOf remaining calls failures capture next
      → AreTakenOf remaining calls failures (take index captures) digests
      → AreTakenOf remaining calls failures (take (index + 1) captures) (digests ++ next ∷ [])
  one_more captures digests capture next index within is one each =
      subst (λ (cs : List Stream). AreTakenOf remaining calls failures cs (digests ++ next ∷ [])) (sym (take_more captures index is.0 within))
      (all_zipped_more (IsTakenOf remaining calls failures) (take index captures) digests (get_or captures index is.0) next each
      (subst (λ (c : Stream). IsTakenOf remaining calls failures c next) is.1 one))
