-- Where the body of a frame begins with a tag: whole, and then with one frame behind it, or cut.
use Rattle.std.proofs.Common.{◌≡◌, ◌↔◌, ℕ, suc, ◌+◌, ◌<◌, ◌≤◌, true, List, [], ◌∷◌, ◌++◌, length, take, drop, Err, refl, sym, ap, ◌∙◌, arith, inr}
use Rattle.std.proofs.lemmas.Bool.{false≢true}
use Rattle.std.proofs.lemmas.List.{length-append, length-drop, drop-drop, take_at, drop_at}
use Rattle.wire.specs.Octets.{IsText, octet, field, octets}
use Rattle.wire.proofs.OctetsLemmas.{begins-true, cell, octets2-field, field2-below}
use Rattle.wire.specs.Address.{is_group, is_reserved}
use Rattle.wire.specs.Frame.{Frame, IsFrame, plain}
use Rattle.wire.specs.Tag.{begins_tag, tag_text, tci_of, vid_of, pcp_of, dei_of}
use Rattle.wire.specs.Refusal.{nowhere}
use Rattle.wire.specs.declared.ether.reason.Reason.TheVariants.{Runt, PortDown, BadSource, Reserved, CutTag, BadVid, FrameType, NoSegment, NotMember}
use Rattle.wire.proofs.FrameLemmas.{control-parts}
use Rattle.overlay.specs.Ingress.{IsEntering, IsRefused, enters, source, destination}
use Rattle.overlay.specs.Ports.{Ports, is_up}
use Rattle.overlay.specs.declared.ports.member.Egress.TheVariants.{Untagged}
use Rattle.overlay.proofs.Entering.{reads}
use Rattle.overlay.proofs.Refusals.{refused-of}
use Rattle.encapsulate.specs.Emission.{local_text}
use Rattle.tenants_apart.specs.Again.{IsForwarded, IsBehindTag}
use Rattle.tenants_apart.proofs.Again.{frame-behind, same-octets}

-- ---- a whole tag

begins-behind : (f : Frame) (w : ℕ) (g : Frame) → IsBehindTag f w g → (begins_tag f.body ≡ true) × (6 ≤ length f.body)
begins-behind f w g h =
    let long = h.long in
    let lengths : length f.body ≡ suc (suc (suc (suc (length g.body)))) = ap length h.body in
    (ap begins_tag h.body, omega arith)

-- the frame of these addresses behind the tag in front of this body
abbrev behind : Frame → Frame
behind f = record { dst = f.dst; src = f.src; pcp = pcp_of (field 2 2 f.body); dei = dei_of (field 2 2 f.body); body = drop 4 f.body }

tag-in_front : (t : List ℕ) → IsText t → begins_tag t ≡ true → 6 ≤ length t → t ≡ tag_text (tci_of (pcp_of (field 2 2 t)) (dei_of (field 2 2 t)) (vid_of (field 2 2 t))) ++ drop 4 t
tag-in_front t text has long =
    let tci : octets 2 (tci_of (pcp_of (field 2 2 t)) (dei_of (field 2 2 t)) (vid_of (field 2 2 t))) ≡ octet 2 t ∷ octet 3 t ∷ [] = ap (octets 2) (control-parts (field 2 2 t)) ∙ octets2-field 2 t text in
    let cells : drop 2 t ≡ octet 2 t ∷ octet 3 t ∷ drop 4 t = cell 2 t (omega arith) ∙ ap (λ (z : List ℕ). octet 2 t ∷ z) (cell 3 t (omega arith)) in
    begins-true (0x81 ∷ 0x00 ∷ []) t has
    ∙ ap (λ (z : List ℕ). 0x81 ∷ 0x00 ∷ z) cells
    ∙ ap (λ (z : List ℕ). 0x81 ∷ 0x00 ∷ z ++ drop 4 t) (sym tci)

there-behind : (f : Frame) → IsText f.body → begins_tag f.body ≡ true → 6 ≤ length f.body → IsBehindTag f (vid_of (field 2 2 f.body)) (behind f)
there-behind f text has long =
    let tci = field2-below 2 f.body text in
    record {
      vid = omega arith;
      pcp = omega arith;
      dst = refl;
      src = refl;
      body = tag-in_front f.body text has long;
      long = omega (arith, length-drop 4 f.body);
    }

pub whole-tag : (f : Frame) → IsText f.body → ((w : ℕ) × (g : Frame) × IsBehindTag f w g) ↔ ((begins_tag f.body ≡ true) × (6 ≤ length f.body))
whole-tag f text = ((λ it. begins-behind f it.0 it.1 it.2), λ has. (vid_of (field 2 2 f.body), behind f, there-behind f text has.0 has.1))

-- ---- a cut tag

behind-addresses : (f : Frame) → IsFrame f → drop 12 (plain f) ≡ f.body
behind-addresses f h =
    sym (drop-drop 6 6 (plain f)) ∙ ap (drop 6) (drop_at f.dst (f.src ++ f.body) 6 h.dst) ∙ drop_at f.src f.body 6 h.src

source-there : (f : Frame) → IsFrame f → source (plain f) ≡ f.src
source-there f h = ap (take 6) (drop_at f.dst (f.src ++ f.body) 6 h.dst) ∙ take_at f.src f.body 6 h.src

destination-there : (f : Frame) → IsFrame f → destination (plain f) ≡ f.dst
destination-there f h = take_at f.dst (f.src ++ f.body) 6 h.dst

pub cut-refused : (s : Ports) (port v : ℕ) (f : Frame) → IsForwarded f → begins_tag f.body ≡ true → length f.body < 6 → is_up s port ≡ true → enters s port (local_text v Untagged f) ≡ Err (nowhere CutTag)
cut-refused s port v f forwarded has short up =
    let frame = forwarded.is_frame in
    let dst = frame.dst in
    let src = frame.src in
    let body = frame.body in
    let lengths : length (plain f) ≡ 12 + length f.body = omega (arith, length-append f.dst (f.src ++ f.body), length-append f.src f.body) in
    let it : IsRefused s port (plain f) (nowhere CutTag) = record {
      before = Runt ∷ PortDown ∷ BadSource ∷ Reserved ∷ [];
      behind = BadVid ∷ FrameType ∷ NoSegment ∷ NotMember ∷ [];
      in_order = refl;
      none_before = (
        (λ runt. omega arith),
        (
          (λ down. false≢true (sym down ∙ up)),
          (
            (λ group. false≢true (sym forwarded.source_is_individual ∙ ap is_group (sym (source-there f frame)) ∙ group)),
            ((λ reserved. false≢true (sym forwarded.destination_is_forwarded ∙ ap is_reserved (sym (destination-there f frame)) ∙ reserved)), tt),
          ),
        ),
      );
      holds = (ap begins_tag (behind-addresses f frame) ∙ has, omega arith);
      segment_is = refl;
    } in
    refused-of s port (plain f) (nowhere CutTag) it

-- ---- the reserved VID

pub reserved-refused : (s : Ports) (port v : ℕ) (f g : Frame) → IsForwarded f → IsBehindTag f 4095 g → is_up s port ≡ true → enters s port (local_text v Untagged f) ≡ Err (nowhere BadVid)
reserved-refused s port v f g forwarded second up =
    let frame = forwarded.is_frame in
    let text : IsEntering (plain f) g 4095 = record { is_frame = frame-behind f 4095 g frame second; below = omega arith; text = inr (same-octets v 4095 f g second) } in
    let r = reads (plain f) g 4095 text in
    let long = r.long in
    let it : IsRefused s port (plain f) (nowhere BadVid) = record {
      before = Runt ∷ PortDown ∷ BadSource ∷ Reserved ∷ CutTag ∷ [];
      behind = FrameType ∷ NoSegment ∷ NotMember ∷ [];
      in_order = refl;
      none_before = (
        (λ runt. omega arith),
        (
          (λ down. false≢true (sym down ∙ up)),
          (
            (λ group. false≢true (sym forwarded.source_is_individual ∙ ap is_group (sym (source-there f frame)) ∙ group)),
            (
              (λ reserved. false≢true (sym forwarded.destination_is_forwarded ∙ ap is_reserved (sym (destination-there f frame)) ∙ reserved)),
              (
                (λ cut.
                    let room = r.room cut.0 in
                    let short = cut.1 in
                    omega arith),
                tt,
              ),
            ),
          ),
        ),
      );
      holds = r.vid;
      segment_is = refl;
    } in
    refused-of s port (plain f) (nowhere BadVid) it
