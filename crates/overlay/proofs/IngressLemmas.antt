-- How the parts of the answer of `enters` are put together.
use Rattle.std.proofs.Common.{◌≡◌, ℕ, Bool, true, false, cond, List, Option, Some, None, Err, refl, ap, Ok}
use Rattle.overlay.specs.Frame.{first}
use Rattle.wire.specs.First.{unless}
use Rattle.wire.specs.declared.ether.reason.Refused.{Refused}
use Rattle.wire.proofs.FirstLemmas.{first-append}
use Rattle.overlay.specs.Ports.{Ports}
use Rattle.overlay.specs.Ingress.{enters, text_reasons, vid_reasons, tag_vid, vid_at, frame_in}

-- where no reason of the text holds, those of the VID are left
pub enters-behind : (s : Ports) (port : ℕ) (b : List ℕ) → first (text_reasons s port b) ≡ None → enters s port b ≡ unless (first (vid_reasons s port (tag_vid b))) (Ok (vid_at s port b, frame_in b))
enters-behind s port b nothing =
    ap (λ (o : Option Refused). unless o (Ok (vid_at s port b, frame_in b))) (first-append (text_reasons s port b) (vid_reasons s port (tag_vid b)) nothing)

-- a refusal is the same, whatever there would be otherwise
pub unless-err : {A B : Type 0} (o : Option Refused) (x : A) (y : B) (refused : Refused) → unless o (Ok x) ≡ Err refused → unless o (Ok y) ≡ Err refused
unless-err (Some r) x y refused h = cc
unless-err None x y refused h = absurd (cc)

-- what stands behind a test that fails
pub some-behind : {A : Type 0} (b : Bool) (x y : A) → Some x ≡ cond b None (Some y) → (b ≡ false) × (x ≡ y)
some-behind true x y h = absurd (cc)
some-behind false x y h = (refl, cc)
