-- A text by its places is a frame in whole text, and enters where nothing stands against it.
use Rattle.std.proofs.Common.{◌≡◌, ◌⊎◌, ℕ, ◌+◌, ◌*◌, ◌/◌, ◌%◌, ◌<◌, ◌≤◌, Bool, true, false, not, eqb, ltb, List, ◌∷◌, ◌++◌, length, take, drop, Option, Some, None, Ok, refl, sym, ap, ◌∙◌, subst, arith, inl, inr}
use Rattle.std.proofs.Common.{rules}
use Rattle.std.specs.FinMap.{get}
use Rattle.std.specs.Option.{option_and_then}
use Rattle.std.specs.Prelude.{IsSome, is_none, is_some}
use Rattle.std.proofs.lemmas.Bool.{ltb-false, le-ltb, eqb-false, ne_eqb, cases_Bool, and_cases, and_left, and_right, cond-true, cond-false, false≢true, not-false}
use Rattle.std.proofs.lemmas.List.{length-append, length-take, length-drop, drop-drop, take_at, drop_at}
use Rattle.wire.specs.Octets.{IsText, field, octets, part}
use Rattle.wire.proofs.OctetsLemmas.{field-drop, field2-below}
use Rattle.wire.specs.Ether.{has_tag}
use Rattle.wire.specs.First.{first, unless}
use Rattle.wire.specs.Frame.{Frame, IsFrame, plain, tagged, frame_of, frame_behind_tag}
use Rattle.wire.specs.Tag.{bit, begins_tag, vid_of, pcp_of, dei_of}
use Rattle.wire.specs.declared.ether.reason.Refused.{Refused}
use Rattle.wire.proofs.FirstLemmas.{NothingHolds-from, first-nothing, unless-ok, same_Ok}
use Rattle.wire.proofs.FrameLemmas.{three-parts, tagged-frame_behind_tag}
use Rattle.overlay.specs.Frame.{is_group, is_reserved}
use Rattle.overlay.specs.declared.ports.member.Egress.{Egress}
use Rattle.overlay.specs.Ports.{Ports, Members, port_at, is_up, egress_at, members_at}
use Rattle.overlay.specs.Ingress.{IsEntering, Enters, enters, reasons, frame_in, tag_vid, vid_at, segment_vid, accepts, source, destination, is_cut}

-- ---- from the places to the text

vid-below : (tci : ℕ) → vid_of tci < 4096
vid-below tci = omega arith

untagged-text : (b : List ℕ) → 14 ≤ length b → has_tag b ≡ false → IsEntering b (frame_of b) 0
untagged-text b long lacks = record {
  is_frame = record { dst = omega (arith, length-take 6 b); src = omega (arith, length-take 6 (drop 6 b), length-drop 6 b); pcp = omega arith; body = omega (arith, length-drop 12 b) };
  below = omega arith;
  text = inl (sym (three-parts b), lacks, refl, refl, refl);
}

tagged-text : (b : List ℕ) → IsText b → 18 ≤ length b → has_tag b ≡ true → IsEntering b (frame_behind_tag b) (vid_of (field 14 2 b))
tagged-text b text long has =
    let tci = field2-below 14 b text in
    record {
      is_frame = record { dst = omega (arith, length-take 6 b); src = omega (arith, length-take 6 (drop 6 b), length-drop 6 b); pcp = omega arith; body = omega (arith, length-drop 16 b) };
      below = vid-below (field 14 2 b);
      text = inr (tagged-frame_behind_tag b (text 14) (text 15) long has);
    }

pub entering : (b : List ℕ) → IsText b → 14 ≤ length b → (has_tag b ≡ true → 18 ≤ length b) → IsEntering b (frame_in b) (tag_vid b)
entering b text long room =
    elim (cases_Bool (has_tag b)) [
      | inl has ↦
          let frame : frame_behind_tag b ≡ frame_in b = sym (cond-true (has_tag b) (frame_behind_tag b) (frame_of b) has) in
          let vid : vid_of (field 14 2 b) ≡ tag_vid b = sym (cond-true (has_tag b) (vid_of (field 14 2 b)) 0 has) in
          subst (λ (f : Frame). IsEntering b f (tag_vid b)) frame (subst (λ (w : ℕ). IsEntering b (frame_behind_tag b) w) vid (tagged-text b text (room has) has))
      | inr lacks ↦
          let frame : frame_of b ≡ frame_in b = sym (cond-false (has_tag b) (frame_behind_tag b) (frame_of b) lacks) in
          let vid : 0 ≡ tag_vid b = sym (cond-false (has_tag b) (vid_of (field 14 2 b)) 0 lacks) in
          subst (λ (f : Frame). IsEntering b f (tag_vid b)) frame (subst (λ (w : ℕ). IsEntering b (frame_of b) w) vid (untagged-text b long lacks))
    ]

-- ---- from the text to the places

behind : (f : Frame) (rest : List ℕ) → IsFrame f → drop 12 (f.dst ++ (f.src ++ rest)) ≡ rest
behind f rest h =
    sym (drop-drop 6 6 (f.dst ++ (f.src ++ rest))) ∙ ap (drop 6) (drop_at f.dst (f.src ++ rest) 6 h.dst) ∙ drop_at f.src rest 6 h.src

dst_at : (f : Frame) (rest : List ℕ) → IsFrame f → take 6 (f.dst ++ (f.src ++ rest)) ≡ f.dst
dst_at f rest h = take_at f.dst (f.src ++ rest) 6 h.dst

src_at : (f : Frame) (rest : List ℕ) → IsFrame f → part 6 6 (f.dst ++ (f.src ++ rest)) ≡ f.src
src_at f rest h = ap (take 6) (drop_at f.dst (f.src ++ rest) 6 h.dst) ∙ take_at f.src rest 6 h.src

-- what a text is read as
pub record Reads (b : List ℕ) (f : Frame) (w : ℕ) : Type 0 where
  pub long : 14 ≤ length b
  pub room : has_tag b ≡ true → 18 ≤ length b
  pub frame : frame_in b ≡ f
  pub vid : tag_vid b ≡ w

bit-below : (c : Bool) → bit c < 2
bit-below true = omega arith
bit-below false = omega arith

bit-eqb : (c : Bool) → eqb (bit c) 1 ≡ c
bit-eqb true = refl
bit-eqb false = refl

reads-plain : (f : Frame) → IsFrame f → begins_tag f.body ≡ false → f.pcp ≡ 0 → f.dei ≡ false → Reads (plain f) f 0
reads-plain f h no_tag pcp dei =
    let b = plain f in
    let rest = behind f f.body h in
    let lacks : has_tag b ≡ false = ap begins_tag rest ∙ no_tag in
    record {
      long = omega (arith, length-append f.dst (f.src ++ f.body), length-append f.src f.body, h.dst, h.src, h.body);
      room = λ has. absurd (false≢true (sym lacks ∙ has));
      frame = cond-false (has_tag b) (frame_behind_tag b) (frame_of b) lacks
          ∙ ap (λ (z : List ℕ). let g : Frame = record { dst = z; src = part 6 6 b; pcp = 0; dei = false; body = drop 12 b } in g) (dst_at f f.body h)
          ∙ ap (λ (z : List ℕ). let g : Frame = record { dst = f.dst; src = z; pcp = 0; dei = false; body = drop 12 b } in g) (src_at f f.body h)
          ∙ ap (λ (z : List ℕ). let g : Frame = record { dst = f.dst; src = f.src; pcp = 0; dei = false; body = z } in g) rest
          ∙ ap (λ (n : ℕ). let g : Frame = record f { pcp = n; dei = false } in g) (sym pcp)
          ∙ ap (λ (c : Bool). let g : Frame = record f { dei = c } in g) (sym dei);
      vid = cond-false (has_tag b) (vid_of (field 14 2 b)) 0 lacks;
    }

reads-tagged : (f : Frame) (w : ℕ) → IsFrame f → w < 4096 → Reads (tagged f w) f w
reads-tagged f w h below =
    let b = tagged f w in
    let tci = 8192 * f.pcp + 4096 * bit f.dei + w in
    let inner = 0x81 ∷ 0x00 ∷ octets 2 tci ++ f.body in
    let rest = behind f inner h in
    let pcp = h.pcp in
    let one = bit-below f.dei in
    let long : 18 ≤ length b = omega (arith, length-append f.dst (f.src ++ inner), length-append f.src inner, h.dst, h.src, h.body) in
    let has : has_tag b ≡ true = ap begins_tag rest in
    let spelled : field 2 2 inner ≡ tci = omega arith in
    let tci_is : field 14 2 b ≡ tci = sym (field-drop 2 2 12 b) ∙ ap (field 2 2) rest ∙ spelled in
    let body : drop 16 b ≡ f.body = sym (drop-drop 4 12 b) ∙ ap (drop 4) rest in
    let pcp_is : pcp_of tci ≡ f.pcp = omega arith in
    let dei_bit : tci / 4096 % 2 ≡ bit f.dei = omega arith in
    let dei_is : dei_of tci ≡ f.dei = ap (λ (n : ℕ). eqb n 1) dei_bit ∙ bit-eqb f.dei in
    let vid_is : vid_of tci ≡ w = omega arith in
    record {
      long = omega arith;
      room = λ _. long;
      frame = cond-true (has_tag b) (frame_behind_tag b) (frame_of b) has
          ∙ ap (λ (z : List ℕ). let g : Frame = record { dst = z; src = part 6 6 b; pcp = pcp_of (field 14 2 b); dei = dei_of (field 14 2 b); body = drop 16 b } in g) (dst_at f inner h)
          ∙ ap (λ (z : List ℕ). let g : Frame = record { dst = f.dst; src = z; pcp = pcp_of (field 14 2 b); dei = dei_of (field 14 2 b); body = drop 16 b } in g) (src_at f inner h)
          ∙ ap (λ (n : ℕ). let g : Frame = record { dst = f.dst; src = f.src; pcp = pcp_of n; dei = dei_of n; body = drop 16 b } in g) tci_is
          ∙ ap (λ (z : List ℕ). let g : Frame = record { dst = f.dst; src = f.src; pcp = pcp_of tci; dei = dei_of tci; body = z } in g) body
          ∙ ap (λ (n : ℕ). let g : Frame = record f { pcp = n; dei = dei_of tci } in g) pcp_is
          ∙ ap (λ (c : Bool). let g : Frame = record f { dei = c } in g) dei_is;
      vid = cond-true (has_tag b) (vid_of (field 14 2 b)) 0 has ∙ ap vid_of tci_is ∙ vid_is;
    }

pub reads : (b : List ℕ) (f : Frame) (w : ℕ) → IsEntering b f w → Reads b f w
reads b f w k = go k.text
  where
    go : ((b ≡ plain f) × (begins_tag f.body ≡ false) × (f.pcp ≡ 0) × (f.dei ≡ false) × (w ≡ 0)) ⊎ (b ≡ tagged f w) → Reads b f w
    go (inl p) = subst (λ (z : List ℕ). Reads z f w) (sym p.0) (subst (λ (v : ℕ). Reads (plain f) f v) (sym p.4) (reads-plain f k.is_frame p.1 p.2 p.3))
    go (inr e) = subst (λ (z : List ℕ). Reads z f w) (sym e) (reads-tagged f w k.is_frame k.below)

-- ---- what enters

-- the addresses are at their places, with a tag and without
dst-frame_in : (b : List ℕ) → (frame_in b).dst ≡ destination b
dst-frame_in b = elim (cases_Bool (has_tag b)) [
  | inl has ↦ ap (λ (f : Frame). f.dst) (cond-true (has_tag b) (frame_behind_tag b) (frame_of b) has)
  | inr lacks ↦ ap (λ (f : Frame). f.dst) (cond-false (has_tag b) (frame_behind_tag b) (frame_of b) lacks)
]

src-frame_in : (b : List ℕ) → (frame_in b).src ≡ source b
src-frame_in b = elim (cases_Bool (has_tag b)) [
  | inl has ↦ ap (λ (f : Frame). f.src) (cond-true (has_tag b) (frame_behind_tag b) (frame_of b) has)
  | inr lacks ↦ ap (λ (f : Frame). f.src) (cond-false (has_tag b) (frame_behind_tag b) (frame_of b) lacks)
]

room-uncut : (b : List ℕ) → is_cut b ≡ false → has_tag b ≡ true → 18 ≤ length b
room-uncut b uncut has = elim (and_cases (has_tag b) (ltb (length b) 18) uncut) [
  | inl lacks ↦ absurd (false≢true (sym lacks ∙ has))
  | inr long ↦ ltb-false (length b) 18 long
]

uncut-room : (b : List ℕ) → (has_tag b ≡ true → 18 ≤ length b) → is_cut b ≡ false
uncut-room b room = elim (cases_Bool (has_tag b)) [
  | inl has ↦ and_right (has_tag b) (ltb (length b) 18) (le-ltb (length b) 18 (room has))
  | inr lacks ↦ and_left (has_tag b) (ltb (length b) 18) lacks
]

some-egress : (o : Option Egress) → is_none o ≡ false → IsSome o
some-egress (Some egress) h = search rules
some-egress None h = absurd (cc)

none-egress : (o : Option Egress) → IsSome o → is_none o ≡ false
none-egress (Some egress) h = refl
none-egress None h = absurd (search rules)

-- a port that is a member is one of a segment
some-members : (o : Option Members) (port : ℕ) → IsSome (option_and_then (λ (members : Members). get members port) o) → is_some o ≡ true
some-members (Some members) port h = refl
some-members None port h = absurd (search rules)

pub enters-from : (s : Ports) (port : ℕ) (b : List ℕ) (vid : ℕ) (f : Frame) → IsText b → enters s port b ≡ Ok (vid, f) → Enters s port b vid f
enters-from s port b vid f text answer =
    let parts = unless-ok (first (reasons s port b)) (Ok (vid_at s port b, frame_in b)) (vid, f) answer in
    let clear = NothingHolds-from (reasons s port b) parts.0 in
    let long = ltb-false (length b) 14 clear.0 in
    let is_text = entering b text long (room-uncut b clear.1.1.1.1.0) in
    let not_reserved = eqb-false (tag_vid b) 4095 clear.1.1.1.1.1.0 in
    let below = is_text.below in
    let all : Enters s port b (vid_at s port b) (frame_in b) = record {
      tag = tag_vid b;
      text = is_text;
      up = not-false (is_up s port) clear.1.0;
      source_is_individual = ap is_group (src-frame_in b) ∙ clear.1.1.0;
      destination_is_forwarded = ap is_reserved (dst-frame_in b) ∙ clear.1.1.1.0;
      tag_is_vid = omega arith;
      accepted = not-false (accepts (port_at s port).accept (tag_vid b)) clear.1.1.1.1.1.1.0;
      vid_is = refl;
      member = some-egress (egress_at s (vid_at s port b) port) clear.1.1.1.1.1.1.1.1.0;
    } in
    subst (λ (p : ℕ × Frame). Enters s port b p.0 p.1) (same_Ok (vid_at s port b, frame_in b) (vid, f) parts.1) all

pub enters-of : (s : Ports) (port : ℕ) (b : List ℕ) (vid : ℕ) (f : Frame) → Enters s port b vid f → enters s port b ≡ Ok (vid, f)
enters-of s port b vid f k =
    let r = reads b f k.tag k.text in
    let src : source b ≡ f.src = sym (src-frame_in b) ∙ ap (λ (g : Frame). g.src) r.frame in
    let dst : destination b ≡ f.dst = sym (dst-frame_in b) ∙ ap (λ (g : Frame). g.dst) r.frame in
    let vid_is : vid_at s port b ≡ vid = ap (segment_vid (port_at s port).pvid) r.vid ∙ sym k.vid_is in
    let tag_is = r.vid in
    let below = k.tag_is_vid in
    let member : IsSome (egress_at s (vid_at s port b) port) = subst (λ (v : ℕ). IsSome (egress_at s v port)) (sym vid_is) k.member in
    let answer : ◌≡◌ {A = ℕ × Frame} (vid_at s port b, frame_in b) (vid, f) = λ i. (vid_is i, r.frame i) in
    ap (λ (o : Option Refused). unless o (Ok (vid_at s port b, frame_in b)))
    (first-nothing (reasons s port b) (
      le-ltb (length b) 14 r.long,
      (
        ap not k.up,
        (
          ap is_group src ∙ k.source_is_individual,
          (
            ap is_reserved dst ∙ k.destination_is_forwarded,
            (
              uncut-room b r.room,
              (
                ne_eqb (tag_vid b) 4095 (λ e. omega arith),
                (
                  ap not (ap (accepts (port_at s port).accept) r.vid ∙ k.accepted),
                  (
                    ap not (some-members (members_at s (vid_at s port b)) port member),
                    (
                      none-egress (egress_at s (vid_at s port b) port) member,
                      tt,
                    ),
                  ),
                ),
              ),
            ),
          ),
        ),
      ),
    ))
    ∙ ap Ok answer
