-- The octets of a frame that came to a segment by a port are those of its record, without the tag.
use Rattle.std.proofs.Common.{◌≡◌, ◌∙◌, ℕ, Bool, true, false, cond, List, ◌++◌, length, take, drop, Result, Ok, Err, refl, sym, ap, subst}
use Rattle.std.specs.Prelude.{nat_lt, ◌&&◌}
use Rattle.std.proofs.lemmas.List.{take-append-drop}
use Rattle.std.proofs.Math.Seq.{take-add}
use Rattle.wire.specs.Ether.{CutShort, Split, Untagged, WithTag, has_tag}
use Rattle.wire.specs.First.{first}
use Rattle.wire.specs.Frame.{Frame, frame_of, frame_behind_tag}
use Rattle.wire.specs.Octets.{field}
use Rattle.wire.specs.declared.ether.reason.Refused.{Refused}
use Rattle.wire.proofs.FirstLemmas.{NothingHolds-from, unless-ok, same_Ok}
use Rattle.filter_db.specs.declared.place.Place.TheVariants.{Local}
use Rattle.overlay.specs.Ports.{Ports}
use Rattle.overlay.specs.Ingress.{enters, reasons, vid_at, frame_in}
use Rattle.overlay.specs.Overlay.{Overlay}
use Rattle.endpoint_core.specs.Arrival.{Arrival, came_at, capture_reasons, entered, let_in}
use Rattle.endpoint_core.proofs.LetIn.{let_in-ok}
use Rattle.both_ways.specs.Told.{text_of, untagged}

-- whether there is a tag or not, where none is cut
abbrev split : List ℕ → Bool → Bool → Split
split b tag short = cond tag (cond short CutShort (WithTag (field 14 2 b) (drop 16 b))) (Untagged (drop 12 b))

abbrev joined : List ℕ → Split → List ℕ
joined b s = elim s [ Untagged body ↦ b | WithTag tci body ↦ take 12 b ++ body | CutShort ↦ b ]

same_text : (b : List ℕ) (tag short : Bool) → (tag && short) ≡ false → joined b (split b tag short) ≡ text_of (cond tag (frame_behind_tag b) (frame_of b))
same_text b true true h = absurd cc
same_text b true false h = ap (λ (front : List ℕ). front ++ drop 16 b) (take-add 6 6 b)
same_text b false short h = sym (take-append-drop 12 b) ∙ ap (λ (front : List ℕ). front ++ drop 12 b) (take-add 6 6 b)

entered_text : (ports : Ports) (port : ℕ) (b : List ℕ) (found : ℕ × Frame) → enters ports port b ≡ Ok found → untagged b ≡ text_of found.1
entered_text ports port b found h =
    let from = unless-ok (first (reasons ports port b)) (Ok (vid_at ports port b, frame_in b)) found h in
    let none = NothingHolds-from (reasons ports port b) from.0 in
    subst (λ (x : ℕ × Frame). untagged b ≡ text_of x.1) (same_Ok (vid_at ports port b, frame_in b) found from.1)
    (same_text b (has_tag b) (nat_lt (length b) 18) none.1.1.1.1.0)

entered_as : (text : List ℕ) (port : ℕ) (r : Result (ℕ × Frame) Refused) (x : Arrival) → ((found : ℕ × Frame) → r ≡ Ok found → text ≡ text_of found.1)
    → entered port r ≡ Ok x → text ≡ text_of x.frame
entered_as text port (Err refused) x h is = absurd cc
entered_as text port (Ok found) x h is = h found refl ∙ ap (λ (a : Arrival). text_of a.frame) same
  where
    same : ◌≡◌ {A = Arrival} (record { vid = found.0; from = Local port; frame = found.1 }) x
    same = cc

pub came_text : (ports : Ports) (overlay : Overlay) (port original : ℕ) (b : List ℕ) (x : Arrival) → came_at ports overlay port original b ≡ Ok x → untagged b ≡ text_of x.frame
unfolding came_at
came_text ports overlay port original b x h =
    let inside = unless-ok (first (capture_reasons original b)) (let_in overlay (entered port (enters ports port b))) x h in
    entered_as (untagged b) port (enters ports port b) x (entered_text ports port b) (let_in-ok overlay (entered port (enters ports port b)) x inside.1).0
