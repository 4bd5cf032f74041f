-- What is told of a frame at a local port refuses where the frame is refused.
use Rattle.std.proofs.Common.{◌≡◌, ◌∙◌, refl, sym, ap, subst, ℕ, Bool, true, false, cond, not, ◌&&◌, nat_lt, is_none, List, [], ◌∷◌, ◌++◌, length, take, drop, Option, Some, None, Result, Ok, Err}
use Rattle.wire.specs.Octets.{field, part}
use Rattle.wire.specs.First.{first, unless}
use Rattle.wire.specs.Frame.{Frame}
use Rattle.wire.specs.Refusal.{within}
use Rattle.wire.specs.Ether.{has_tag, tag_split, CutShort, WithTag, Untagged}
use Rattle.wire.specs.Tag.{begins_tag}
use Rattle.wire.specs.declared.ether.reason.Reason.{Reason}
use Rattle.wire.specs.declared.ether.reason.Reason.TheVariants.{NotMember, InnerTag}
use Rattle.wire.specs.declared.ether.reason.Refused.{Refused}
use Rattle.filter_db.specs.declared.place.Place.TheVariants.{Local}
use Rattle.overlay.specs.Ingress.{reasons, vid_reasons, tag_vid, frame_in, destination, source, vid_at}
use Rattle.overlay.specs.Ports.{Ports, egress_at}
use Rattle.wire.specs.Address.{is_group, is_reserved}
use Rattle.overlay.specs.Overlay.{Overlay, refuses_tags_at}
use Rattle.endpoint_core.specs.Arrival.{came_at, capture_reasons, entered, let_in}
use Rattle.endpoint_core.specs.Arrival.{Arrival}
use Rattle.endpoint_core.specs.Among.{segment_of}
use Rattle.event_story.specs.Ether.{header_fact, if_whole, tag_told}
use Rattle.event_story.specs.Local.{local_fact, local_facts, local_facts_of, local_tests, segment_fact}
use Rattle.event_story.specs.declared.fact.Fact.{Fact}
use Rattle.event_story.specs.declared.fact.Fact.TheVariants as facts
use Rattle.story_laws.specs.Refusing.{is_refusal, RefusesAs}
use Rattle.story_laws.proofs.Refusals.{tells, Good, Rows, pass, stop, rows-good, unless-append, told-as}

-- ---- one table

-- the frame in its segment, if it is let in
abbrev entrant : Ports → ℕ → List ℕ → Arrival
entrant s port b = record { vid = vid_at s port b; from = Local port; frame = frame_in b }

in-entered : (overlay : Overlay) (port : ℕ) (o : Option Refused) (found : ℕ × Frame) → let_in overlay (entered port (unless o (Ok found))) ≡ unless o (let_in overlay (entered port (Ok found)))
in-entered overlay port None found = refl
in-entered overlay port (Some refused) found = refl

came-table : (s : Ports) (overlay : Overlay) (port original : ℕ) (b : List ℕ)
    → came_at s overlay port original b ≡ unless (first (capture_reasons original b ++ reasons s port b)) (let_in overlay (Ok (entrant s port b)))
unfolding came_at
came-table s overlay port original b =
    ap (unless (first (capture_reasons original b))) (in-entered overlay port (first (reasons s port b)) (vid_at s port b, frame_in b))
    ∙ unless-append (capture_reasons original b) (reasons s port b) (let_in overlay (Ok (entrant s port b)))

-- ---- each test

-- the fact of a test
abbrev saw : Ports → ℕ → ℕ → List ℕ → Result Arrival Refused → Reason → Option Fact
saw s port original b came t = local_fact s port original b came t

-- the header is told as too short where it is
header-told : (b : List ℕ) (q : Bool) → nat_lt (length b) 14 ≡ q → is_refusal (header_fact b) ≡ is_refusal (cond q (facts.Short (length b)) (facts.Ether (part 6 6 b) (take 6 b)))
header-told b q is = ap (λ (p : Bool). is_refusal (cond p (facts.Short (length b)) (facts.Ether (part 6 6 b) (take 6 b)))) is

-- what is told of a whole one
whole : (b : List ℕ) (f : Fact) → nat_lt (length b) 14 ≡ false → tells is_refusal (if_whole b f) ≡ is_refusal f
whole b f is = ap (λ (p : Bool). tells is_refusal (cond p None (Some f))) is

-- a tag that is cut short is told so
cut-told : (tag short : Bool) (tci : ℕ) (behind body : List ℕ) → is_refusal (tag_told (cond tag (cond short CutShort (WithTag tci behind)) (Untagged body))) ≡ (tag && short)
cut-told true true tci behind body = refl
cut-told true false tci behind body = refl
cut-told false short tci behind body = refl

-- from the last tests of a table on the segment is known
let-in-known : (s : Ports) (overlay : Overlay) (port : ℕ) (b : List ℕ) (x : Arrival) → is_refusal (segment_fact s port b (segment_of (let_in overlay (Ok x)))) ≡ false
let-in-known s overlay port b x = by (begins_tag x.frame.body && refuses_tags_at overlay x.vid)
  where
    by : (q : Bool) → is_refusal (segment_fact s port b (segment_of (cond q (Err (within x.vid InnerTag)) (Ok x)))) ≡ false
    by true = refl
    by false = refl

known : (s : Ports) (overlay : Overlay) (port : ℕ) (b : List ℕ) (x : Arrival) (vid : ℕ) (q : Bool)
    → is_refusal (segment_fact s port b (segment_of (unless (first ((within vid NotMember, q) ∷ [])) (let_in overlay (Ok x))))) ≡ false
known s overlay port b x vid true = refl
known s overlay port b x vid false = let-in-known s overlay port b x

-- a member's port is told as one
member-told : (s : Ports) (overlay : Overlay) (port original : ℕ) (b : List ℕ) (x : Arrival) → is_none (egress_at s x.vid port) ≡ false
    → tells is_refusal (saw s port original b (let_in overlay (Ok x)) NotMember) ≡ false
member-told s overlay port original b x is = by (begins_tag x.frame.body && refuses_tags_at overlay x.vid)
  where
    by : (q : Bool) → tells is_refusal (saw s port original b (cond q (Err (within x.vid InnerTag)) (Ok x)) NotMember) ≡ false
    by true = is
    by false = is

-- the last test
let-in-good : (s : Ports) (overlay : Overlay) (port original : ℕ) (b : List ℕ) (x : Arrival) → Good is_refusal (saw s port original b) (let_in overlay (Ok x)) (InnerTag ∷ [])
let-in-good s overlay port original b x = by (begins_tag x.frame.body && refuses_tags_at overlay x.vid)
  where
    by : (q : Bool) → Good is_refusal (saw s port original b) (cond q (Err (within x.vid InnerTag)) (Ok x)) (InnerTag ∷ [])
    by true = stop is_refusal (saw s port original b) (within x.vid InnerTag) [] refl
    by false = pass is_refusal (saw s port original b) (Ok x) InnerTag [] refl (λ _. refl) (record { agree = refl; among = refl })

-- the tests of the VID
vid-rows : (s : Ports) (overlay : Overlay) (port original : ℕ) (b : List ℕ)
    → Rows is_refusal (saw s port original b) (vid_reasons s port (tag_vid b)) (let_in overlay (Ok (entrant s port b))) (InnerTag ∷ [])
vid-rows s overlay port original b =
    let x = entrant s port b in (
      λ _. refl,
      λ _. (
        λ fails. ap (λ (q : Bool). tells is_refusal (cond q (Some facts.ReservedVid) None)) fails,
        (
          λ _. refl,
          λ _. (
            λ fails. ap (λ (q : Bool). not (not q)) fails,
            (
              λ _. refl,
              λ _. (
                λ _. known s overlay port b x x.vid (is_none (egress_at s x.vid port)),
                (λ h. h, λ member. (λ _. member-told s overlay port original b x member, let-in-good s overlay port original b x)),
              ),
            ),
          ),
        ),
      ),
    )

-- and those before it
frame-rows : (s : Ports) (overlay : Overlay) (port original : ℕ) (b : List ℕ)
    → Rows is_refusal (saw s port original b) (capture_reasons original b ++ reasons s port b) (let_in overlay (Ok (entrant s port b))) (InnerTag ∷ [])
frame-rows s overlay port original b =
    let sender = whole b (facts.Source (is_group (source b))) in
    let receiver = whole b (facts.Destination (is_group (destination b)) (is_reserved (destination b))) in
    let tag = λ (long : nat_lt (length b) 14 ≡ false). whole b (tag_told (tag_split b)) long ∙ cut-told (has_tag b) (nat_lt (length b) 18) (field 14 2 b) (drop 16 b) (drop 12 b) in (
      λ h. h,
      λ short. (
        λ _. short,
        (
          λ h. h,
          λ caught. (
            λ _. caught,
            (
              λ h. header-told b true h,
              λ long. (
                λ _. header-told b false long,
                (
                  λ h. h,
                  λ up. (
                    λ _. up,
                    (
                      λ h. sender long ∙ h,
                      λ one. (
                        λ _. sender long ∙ one,
                        (
                          λ h. receiver long ∙ h,
                          λ free. (λ _. receiver long ∙ free, (λ h. tag long ∙ h, λ uncut. (λ _. tag long ∙ uncut, vid-rows s overlay port original b))),
                        ),
                      ),
                    ),
                  ),
                ),
              ),
            ),
          ),
        ),
      ),
    )

pub frame-refusals : (s : Ports) (overlay : Overlay) (port original : ℕ) (b : List ℕ) → RefusesAs is_refusal (came_at s overlay port original b) (local_facts s overlay port original b)
frame-refusals s overlay port original b =
    subst (λ (came : Result Arrival Refused). RefusesAs is_refusal came (local_facts_of s port original b came)) (sym (came-table s overlay port original b))
    (told-as is_refusal (saw s port original b table) table local_tests good.agree)
  where
    table : Result Arrival Refused
    table = unless (first (capture_reasons original b ++ reasons s port b)) (let_in overlay (Ok (entrant s port b)))

    good : Good is_refusal (saw s port original b) table local_tests
    good = rows-good is_refusal (saw s port original b) (capture_reasons original b ++ reasons s port b) (let_in overlay (Ok (entrant s port b))) (InnerTag ∷ []) refl (frame-rows s overlay port original b)
