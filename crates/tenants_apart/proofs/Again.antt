-- What leaves at a local port enters there again; and what a second tag makes of it.
use Rattle.std.proofs.Common.{◌≡◌, ◌↔◌, ℕ, ◌==◌, ◌<◌, false, List, ◌++◌, length, Option, Some, None, Ok, refl, sym, ap, ◌∙◌, subst, arith, rules, inl, inr}
use Rattle.std.specs.Prelude.{IsSome, is_none}
use Rattle.std.proofs.lemmas.Bool.{not-false, ne_eqb, cond-false}
use Rattle.wire.specs.Address.{is_group, is_reserved}
use Rattle.wire.specs.First.{first}
use Rattle.wire.specs.Frame.{Frame, IsFrame, plain, tagged}
use Rattle.wire.specs.Tag.{IsVid, begins_tag, tag_text, tci_of}
use Rattle.wire.proofs.FirstLemmas.{NothingHolds-from, unless-ok, same_Ok}
use Rattle.overlay.specs.Ingress.{IsEntering, Enters, enters, reasons, frame_in, tag_vid, vid_at, segment_vid, accepts}
use Rattle.overlay.specs.Ports.{Ports, port_at, is_up, egress_at}
use Rattle.overlay.specs.declared.ports.member.Egress.{Egress}
use Rattle.overlay.specs.declared.ports.member.Egress.TheVariants.{Tagged, Untagged}
use Rattle.overlay.proofs.Entering.{reads, enters-of}
use Rattle.encapsulate.specs.Emission.{local_text}
use Rattle.tenants_apart.specs.Again.{IsForwarded, TakesInto, as_untagged, IsBehindTag}

-- ---- with a tag, and without

-- a text that is a frame with this VID in its tag, or without one, enters where a port takes it
taken : (s : Ports) (port w v : ℕ) (b : List ℕ) (f : Frame) → IsForwarded f → w < 4095 → IsEntering b f w → TakesInto s port w v → enters s port b ≡ Ok (v, f)
taken s port w v b f forwarded below text takes =
    let it : Enters s port b v f = record {
      tag = w;
      text = text;
      up = takes.up;
      source_is_individual = forwarded.source_is_individual;
      destination_is_forwarded = forwarded.destination_is_forwarded;
      tag_is_vid = below;
      accepted = takes.accepted;
      vid_is = takes.segment;
      member = takes.member;
    } in
    enters-of s port b v f it

some-egress : (o : Option Egress) → is_none o ≡ false → IsSome o
some-egress (Some egress) h = search rules
some-egress None h = absurd (cc)

-- and where none takes it, it doesn't
entered-so : (s : Ports) (port w u : ℕ) (b : List ℕ) (f h : Frame) → IsEntering b f w → enters s port b ≡ Ok (u, h) → (h ≡ f) × TakesInto s port w u
entered-so s port w u b f h text answer =
    let parts = unless-ok (first (reasons s port b)) (Ok (vid_at s port b, frame_in b)) (u, h) answer in
    let clear = NothingHolds-from (reasons s port b) parts.0 in
    let same = same_Ok (vid_at s port b, frame_in b) (u, h) parts.1 in
    let r = reads b f w text in
    let segment : vid_at s port b ≡ u = ap (λ (p : ℕ × Frame). p.0) same in
    let frame : frame_in b ≡ h = ap (λ (p : ℕ × Frame). p.1) same in
    let takes : TakesInto s port w u = record {
      up = not-false (is_up s port) clear.1.0;
      accepted = ap (accepts (port_at s port).accept) (sym r.vid) ∙ not-false (accepts (port_at s port).accept (tag_vid b)) clear.1.1.1.1.1.1.0;
      segment = sym segment ∙ ap (segment_vid (port_at s port).pvid) r.vid;
      member = subst (λ (v : ℕ). IsSome (egress_at s v port)) segment (some-egress (egress_at s (vid_at s port b) port) clear.1.1.1.1.1.1.1.1.0);
    } in
    (sym frame ∙ r.frame, takes)

exactly : (s : Ports) (port w u : ℕ) (b : List ℕ) (f h : Frame) → IsForwarded f → w < 4095 → IsEntering b f w → (enters s port b ≡ Ok (u, h)) ↔ ((h ≡ f) × TakesInto s port w u)
exactly s port w u b f h forwarded below text =
    (entered-so s port w u b f h text, λ both. subst (λ (g : Frame). enters s port b ≡ Ok (u, g)) (sym both.0) (taken s port w u b f forwarded below text both.1))

-- a tagged text is that of its frame
with-tag : (f : Frame) (w : ℕ) → IsFrame f → w < 4096 → IsEntering (tagged f w) f w
with-tag f w is_frame below = record { is_frame = is_frame; below = below; text = inr refl }

own-vid : (pvid v : ℕ) → IsVid v → segment_vid pvid v ≡ v
own-vid pvid v h =
    let low = h.0 in
    cond-false (v == 0) pvid v (ne_eqb v 0 (λ e. omega arith))

pub tagged-again : (s : Ports) (port v u : ℕ) (f h : Frame) → IsForwarded f → IsVid v → (enters s port (local_text v Tagged f) ≡ Ok (u, h)) ↔ ((u ≡ v) × (h ≡ f) × TakesInto s port v v)
tagged-again s port v u f h forwarded is_vid =
    let high = is_vid.1 in
    let text = with-tag f v forwarded.is_frame (omega arith) in
    let both = exactly s port v u (tagged f v) f h forwarded (omega arith) text in (
      (λ answer.
          let it = both.0 answer in
          let own : u ≡ v = it.1.segment ∙ own-vid (port_at s port).pvid v is_vid in
          (own, it.0, subst (λ (z : ℕ). TakesInto s port v z) own it.1)),
      (λ it. both.1 (it.1, subst (λ (z : ℕ). TakesInto s port v z) (sym it.0) it.2)),
    )

unpriority : (f : Frame) → IsForwarded f → IsForwarded (as_untagged f)
unpriority f h =
    let frame = h.is_frame in
    record {
      is_frame = record { dst = frame.dst; src = frame.src; pcp = omega arith; body = frame.body };
      source_is_individual = h.source_is_individual;
      destination_is_forwarded = h.destination_is_forwarded;
    }

pub untagged-again : (s : Ports) (port v u : ℕ) (f h : Frame) → IsForwarded f → begins_tag f.body ≡ false → (enters s port (local_text v Untagged f) ≡ Ok (u, h)) ↔ ((h ≡ as_untagged f) × TakesInto s port 0 u)
untagged-again s port v u f h forwarded no_tag =
    let again : IsForwarded (as_untagged f) = unpriority f forwarded in
    let text : IsEntering (plain f) (as_untagged f) 0 = record { is_frame = again.is_frame; below = omega arith; text = inl (refl, no_tag, refl, refl, refl) } in
    exactly s port 0 u (plain f) (as_untagged f) h again (omega arith) text

-- ---- a second tag

pub frame-behind : (f : Frame) (w : ℕ) (g : Frame) → IsFrame f → IsBehindTag f w g → IsFrame g
frame-behind f w g is_frame h = record {
  dst = ap length h.dst ∙ is_frame.dst;
  src = ap length h.src ∙ is_frame.src;
  pcp = h.pcp;
  body = h.long;
}

-- the octets are those of the other frame with the other tag
pub same-octets : (v w : ℕ) (f g : Frame) → IsBehindTag f w g → local_text v Untagged f ≡ local_text w Tagged g
same-octets v w f g h =
    ap (λ (z : List ℕ). f.dst ++ (f.src ++ z)) h.body
    ∙ ap (λ (z : List ℕ). z ++ (f.src ++ (tag_text (tci_of g.pcp g.dei w) ++ g.body))) (sym h.dst)
    ∙ ap (λ (z : List ℕ). g.dst ++ (z ++ (tag_text (tci_of g.pcp g.dei w) ++ g.body))) (sym h.src)

forwarded-behind : (f : Frame) (w : ℕ) (g : Frame) → IsForwarded f → IsBehindTag f w g → IsForwarded g
forwarded-behind f w g forwarded h = record {
  is_frame = frame-behind f w g forwarded.is_frame h;
  source_is_individual = ap is_group h.src ∙ forwarded.source_is_individual;
  destination_is_forwarded = ap is_reserved h.dst ∙ forwarded.destination_is_forwarded;
}

pub other-enters : (s : Ports) (port v w u : ℕ) (f g h : Frame) → IsForwarded f → IsBehindTag f w g → w < 4095 → (enters s port (local_text v Untagged f) ≡ Ok (u, h)) ↔ ((h ≡ g) × TakesInto s port w u)
other-enters s port v w u f g h forwarded behind below =
    let other = forwarded-behind f w g forwarded behind in
    subst (λ (b : List ℕ). (enters s port b ≡ Ok (u, h)) ↔ ((h ≡ g) × TakesInto s port w u)) (sym (same-octets v w f g behind))
    (exactly s port w u (tagged g w) g h other below (with-tag g w other.is_frame behind.vid))

-- there is one such frame and VID at most
pub one-behind : (f : Frame) (v w : ℕ) (g h : Frame) → IsFrame f → IsBehindTag f v g → IsBehindTag f w h → (v ≡ w) × (g ≡ h)
one-behind f v w g h is_frame first second =
    let a = reads (tagged g v) g v (with-tag g v (frame-behind f v g is_frame first) first.vid) in
    let b = reads (tagged h w) h w (with-tag h w (frame-behind f w h is_frame second) second.vid) in
    let same : tagged g v ≡ tagged h w = sym (same-octets 0 v f g first) ∙ same-octets 0 w f h second in
    (sym a.vid ∙ ap tag_vid same ∙ b.vid, sym a.frame ∙ ap frame_in same ∙ b.frame)
