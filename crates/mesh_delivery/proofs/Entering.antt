-- A frame that enters by a local port is whole, and comes from that port.
use Rattle.std.proofs.Common.{◌≡◌, ℕ, ◌≤◌, Bool, true, false, cond, List, length, drop, Result, Ok, Err, refl, subst, arith}
use Rattle.std.specs.Prelude.{nat_lt, ◌&&◌}
use Rattle.std.proofs.lemmas.Bool.{ltb-false}
use Rattle.std.proofs.lemmas.List.{length-take, length-drop}
use Rattle.wire.specs.Ether.{has_tag}
use Rattle.wire.specs.First.{first}
use Rattle.wire.specs.Frame.{Frame, frame_of, frame_behind_tag}
use Rattle.wire.specs.declared.ether.reason.Refused.{Refused}
use Rattle.wire.proofs.FirstLemmas.{NothingHolds-from, unless-ok, same_Ok}
use Rattle.filter_db.specs.declared.place.Place.TheVariants.{Local}
use Rattle.overlay.specs.Ports.{Ports}
use Rattle.overlay.specs.Ingress.{enters, reasons, vid_at, frame_in}
use Rattle.overlay.specs.Overlay.{Overlay}
use Rattle.endpoint_core.specs.Arrival.{Arrival}
use Rattle.endpoint_core.specs.Arrival.{came_at, capture_reasons, entered, let_in}
use Rattle.endpoint_core.proofs.LetIn.{let_in-ok}
use Rattle.mesh_delivery.proofs.Wire.{IsWhole}

-- a text with 14 octets, and 18 with a tag
whole-text : (b : List ℕ) (tag : Bool) → 14 ≤ length b → (tag && nat_lt (length b) 18) ≡ false → IsWhole (cond tag (frame_behind_tag b) (frame_of b))
whole-text b true long uncut =
    let more = ltb-false (length b) 18 uncut in
    record { dst = omega (arith, length-take 6 b); src = omega (arith, length-take 6 (drop 6 b), length-drop 6 b); body = omega (arith, length-drop 16 b) }
whole-text b false long uncut = record { dst = omega (arith, length-take 6 b); src = omega (arith, length-take 6 (drop 6 b), length-drop 6 b); body = omega (arith, length-drop 12 b) }

entered-whole : (ports : Ports) (port : ℕ) (b : List ℕ) (found : ℕ × Frame) → enters ports port b ≡ Ok found → IsWhole found.1
entered-whole ports port b found h =
    let from = unless-ok (first (reasons ports port b)) (Ok (vid_at ports port b, frame_in b)) found h in
    let none = NothingHolds-from (reasons ports port b) from.0 in
    subst (λ (x : ℕ × Frame). IsWhole x.1) (same_Ok (vid_at ports port b, frame_in b) found from.1) (whole-text b (has_tag b) (ltb-false (length b) 14 none.0) none.1.1.1.1.0)

pub record IsEntered (port : ℕ) (x : Arrival) : Type 0 where
  pub from : x.from ≡ Local port
  pub whole : IsWhole x.frame

entered-as : (port : ℕ) (r : Result (ℕ × Frame) Refused) (x : Arrival) → ((found : ℕ × Frame) → r ≡ Ok found → IsWhole found.1) → entered port r ≡ Ok x → IsEntered port x
entered-as port (Err refused) x whole h = absurd cc
entered-as port (Ok found) x whole h = subst (IsEntered port) same (record { from = refl; whole = whole found refl })
  where
    same : ◌≡◌ {A = Arrival} (record { vid = found.0; from = Local port; frame = found.1 }) x
    same = cc

pub came_at-entered : (ports : Ports) (overlay : Overlay) (port original : ℕ) (b : List ℕ) (x : Arrival) → came_at ports overlay port original b ≡ Ok x → IsEntered port x
unfolding came_at
came_at-entered ports overlay port original b x h =
    let inside = unless-ok (first (capture_reasons original b)) (let_in overlay (entered port (enters ports port b))) x h in
    entered-as port (enters ports port b) x (entered-whole ports port b) (let_in-ok overlay (entered port (enters ports port b)) x inside.1).0
