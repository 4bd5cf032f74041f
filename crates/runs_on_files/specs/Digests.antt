-- The digests of captures, by their names. It states no standard.
--     IsDigestOf      that of what a capture of a name tells
--     AreDigestsOf      those of some, one behind another
use Rattle.std.specs.Prelude.{◌≡◌, ℕ, List, Option, IfSome}
use Rattle.std.specs.Borrow.{Bor}
use Rattle.std.specs.List.{AllZip}
use Rattle.part_record.specs.Digests.{digest_of}
use Rattle.part_record.specs.declared.digests.CaptureDigest.{CaptureDigest}
use Rattle.program_files.specs.Opened.{IsOpened}

module _ {F I : Type 0} (files : F → Option (List ℕ)) (input : I → Option (List ℕ)) where
  -- a capture of this name was opened, and where the octets are known that it tells, this is their digest
  pub record IsDigestOf (name : List ℕ) (digest : CaptureDigest) : Type 0 where
    pub told : Option (List ℕ)
    pub opened : IsOpened files input name told
    pub digest_is : IfSome told (λ octets. digest ≡ digest_of octets)

  -- there is one of each of these names
  abbrev pub AreDigestsOf : List (Bor (List ℕ)) → List CaptureDigest → Type 0
  AreDigestsOf names digests = AllZip (λ (name : Bor (List ℕ)) (digest : CaptureDigest). IsDigestOf name.now digest) names digests
