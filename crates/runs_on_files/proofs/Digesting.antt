-- The digest of what an input told that was read to its end.
use Rattle.std.proofs.Common.{◌≡◌, ℕ, ◌+◌, ◌<◌, List, [], ◌∷◌, ◌++◌, length, take, get_or, Option, None, Some, Bor, sym, ap, ◌∙◌, subst, append-nil}
use Rattle.std.proofs.lemmas.Bool.{true≢false}
use Rattle.std.proofs.lemmas.List.{take_more}
use Rattle.std.proofs.lemmas.Slice.Zip.{all_zipped_more}
use Rattle.std.specs.Prelude.{IfSome, IsOk, OnOk, Result, Ok, Err}
use Rattle.std.specs.Io.KnownBytes.{Consumes, IsAtEnd}
use Rattle.octet_sums.specs.declared.sha256.hasher.Sha256.{Sha256}
use Rattle.part_record.specs.Digests.{digest_of}
use Rattle.part_record.specs.Sum.{HasTaken}
use Rattle.part_record.specs.declared.digests.CaptureDigest.{CaptureDigest}
use Rattle.runs_on_files.specs.Digests.{AreDigestsOf, IsDigestOf}

pub whole_digest : (told left : Option (List ℕ)) (rest : List ℕ) (digest : CaptureDigest) → Consumes told left rest → IsAtEnd left → digest ≡ digest_of rest → IfSome told (λ octets. digest ≡ digest_of octets)
whole_digest None left rest digest h end is = tt
whole_digest (Some octets) None rest digest h end is = absurd h
whole_digest (Some octets) (Some left) rest digest h end is = is ∙ ap digest_of (sym (h ∙ ap (λ (xs : List ℕ). rest ++ xs) end ∙ append-nil rest))

-- the digest of an input that took nothing before
pub finished_digest : (told left : Option (List ℕ)) (old new : Option Sha256) (before behind : ℕ) (digest : CaptureDigest)
    → HasTaken old before []
    → ((octets : List ℕ) → HasTaken old before octets → (rest : List ℕ) × Consumes told left rest × HasTaken new behind (octets ++ rest))
    → IsAtEnd left → ((octets : List ℕ) → HasTaken new behind octets → digest ≡ digest_of octets)
    → IfSome told (λ octets. digest ≡ digest_of octets)
finished_digest told left old new before behind digest none took end is =
    let all = took [] none in
    whole_digest told left all.0 digest all.1 end (is all.0 all.2)

-- where a call succeeds, what it says of that holds
pub on_ok : {T E : Type 0} (result : Result T E) (P : Type 0) → IsOk result → OnOk result P → P
on_ok (Ok x) P is h = h
on_ok (Err e) P is h = absurd (true≢false (sym is))

module _ {F I : Type 0} (files : F → Option (List ℕ)) (input : I → Option (List ℕ)) where
  -- one more, where this text is the name at this place
  pub one_more : (names : List (Bor (List ℕ))) (digests : List CaptureDigest) (text : List ℕ) (next : CaptureDigest) (index : ℕ)
      → index < length names → (d : Bor (List ℕ)) × (text ≡ (get_or names index d).now) → IsDigestOf files input text next
      → AreDigestsOf files input (take index names) digests → AreDigestsOf files input (take (index + 1) names) (digests ++ next ∷ [])
  one_more names digests text next index within is one each =
      let name = get_or names index is.0 in
      subst (λ (ns : List (Bor (List ℕ))). AreDigestsOf files input ns (digests ++ next ∷ [])) (sym (take_more names index is.0 within))
      (all_zipped_more (λ (n : Bor (List ℕ)) (c : CaptureDigest). IsDigestOf files input n.now c) (take index names) digests name next each
      (subst (λ (t : List ℕ). IsDigestOf files input t next) is.1 one))
