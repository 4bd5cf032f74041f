-- What is held back, handed on behind an event: nothing more was written.
use Rattle.std.proofs.Common.{◌≡◌, [], refl, sym, subst, ℕ, ◌<◌, ◌-◌, Bool, true, false, List, length, slice_index_or, slice_set, arith, Result, Ok, Err, IsErr, MatchBool, inl, inr}
use Rattle.std.proofs.KnownBytes.{Appends-kept, Keeps-refl, Keeps-trans}
use Rattle.std.proofs.lemmas.Bool.{cases_eq}
use Rattle.std.proofs.lemmas.List.{get_or-set_other, get_or-set_same, get_or_default}
use Rattle.std.specs.Io.KnownBytes.{Keeps}
use Rattle.std.specs.Prelude.{OnOk}
use Rattle.pcap.specs.Sink.{Drain, HandsOn, IsHandedOn}
use Rattle.timeline.specs.declared.source.Tap.{Tap}
use Rattle.timeline.specs.declared.source.Tap.TheVariants.{Port, Underlay}
use Rattle.part_merge.specs.Left.{AreAdded, AreKept, IsTap, UnlessDevice, of_tap}
use Rattle.part_merge.specs.declared.fault.MergeFault.{MergeFault}
use Rattle.part_merge.proofs.Blaming.{PutWrites}

-- ---- one output

module _ {T E : Type 0} where
  -- it holds what it held, and nothing back
  pub handed_on : (old new : Drain) (result : Result T E) → IsHandedOn old new result → OnOk result (Keeps old.written new.written × (new.held ≡ []))
  handed_on old new result handed = by old.is_failed result handed
    where
      failed : (result : Result T E) → IsErr result → OnOk result (Keeps old.written new.written × (new.held ≡ []))
      failed (Ok x) never = absurd cc
      failed (Err e) is = tt

      by : (b : Bool) (result : Result T E) → MatchBool b (IsErr result × (new ≡ old)) (HandsOn old new result) → OnOk result (Keeps old.written new.written × (new.held ≡ []))
      by true result h = failed result h.0
      by false (Ok x) h = (h.2, h.3)
      by false (Err e) h = tt

  pub handed_writes : (old new : Drain) (result : Result T E) → IsHandedOn old new result → PutWrites old new result
  handed_writes old new result handed = by old.is_failed refl handed
    where
      failed : (result : Result T E) → old.is_failed ≡ true → IsErr result → PutWrites old new result
      failed (Ok x) gone never = absurd cc
      failed (Err e) gone is = λ sound. absurd cc

      went : (result : Result T E) → old.is_failed ≡ false → HandsOn old new result → PutWrites old new result
      went (Ok x) sound h = rw (h.0, h.1, sound) refl
      went (Err e) sound h = λ sound. h.1

      by : (b : Bool) → old.is_failed ≡ b → MatchBool b (IsErr result × (new ≡ old)) (HandsOn old new result) → PutWrites old new result
      by true is h = failed result is h.0
      by false is h = went result is h

-- ---- those of the ports

-- each holds what it held
abbrev pub EachKept : List Drain → List Drain → Type 0
EachKept old new = (d : Drain) (k : ℕ) → Keeps (slice_index_or old k d).written (slice_index_or new k d).written

pub none_handed_yet : (sinks : List Drain) → EachKept sinks sinks
none_handed_yet sinks = λ d k. Keeps-refl (slice_index_or sinks k d).written

pub one_more_kept : (start sinks : List Drain) (i : ℕ) (x new : Drain) → i < length sinks → EachKept start sinks → Keeps (slice_index_or sinks i x).written new.written → EachKept start (slice_set sinks i new)
one_more_kept start sinks i x new there so_far kept = λ d k. elim (cases_eq k i) [
  | inl same ↦
      rw (same, get_or-set_same sinks i new d there)
      (Keeps-trans (slice_index_or start i d).written (slice_index_or sinks i d).written new.written (so_far d i) (rw (get_or_default sinks i d x there) kept))
  | inr apart ↦ rw (get_or-set_other sinks i k new d apart) (so_far d k)
]

pub ports_kept : (old new : List Drain) (underlay : Drain) → EachKept old new → AreKept old underlay new underlay
ports_kept old new underlay each (Port p) at = each underlay (p - 1)
ports_kept old new underlay each Underlay at = Keeps-refl underlay.written

-- ---- all captures

pub all_kept : (old new : List Drain) (old_underlay new_underlay : Drain) → length new ≡ length old → ((underlay : Drain) → AreKept old underlay new underlay) → Keeps old_underlay.written new_underlay.written
    → AreKept old old_underlay new new_underlay
all_kept old new old_underlay new_underlay many ports underlay (Port p) at =
    subst (λ (d : Drain). Keeps (slice_index_or old (p - 1) old_underlay).written d.written) (get_or_default new (p - 1) old_underlay new_underlay (omega (arith, at.0, at.1, many))) (ports old_underlay (Port p) at)
all_kept old new old_underlay new_underlay many ports underlay Underlay at = underlay

pub added_kept : (text : Tap → List ℕ) (old mid new : List Drain) (old_underlay mid_underlay new_underlay : Drain) → length mid ≡ length old → AreAdded text old old_underlay mid mid_underlay
    → AreKept mid mid_underlay new new_underlay → AreAdded text old old_underlay new new_underlay
added_kept text old mid new old_underlay mid_underlay new_underlay many added kept = λ tap at.
    Appends-kept (of_tap old old_underlay tap).written (of_tap mid mid_underlay tap).written (of_tap new new_underlay tap).written (text tap) (added tap at)
    (kept tap (subst (λ n. IsTap n tap) (sym many) at))

-- ---- an answer

module _ {T : Type 0} where
  -- a fact that stands unless a device failed, and what comes of it
  pub unless_then : (result : Result T MergeFault) (P Q : Type 0) → UnlessDevice result P → (P → Q) → UnlessDevice result Q
  unless_then (Ok x) P Q p then_ = then_ p
  unless_then (Err fault) P Q p then_ = p
