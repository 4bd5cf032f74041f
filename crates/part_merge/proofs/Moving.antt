-- What is left in the captures of a part, and what was added to the outputs, behind a record that was copied.
use Rattle.std.proofs.Common.{◌≡◌, ◌≢◌, refl, sym, subst, ℕ, ◌-◌, ◌<◌, ◌≤◌, ◌==◌, Bool, true, false, List, [], ◌++◌, length, slice_index_or, slice_set, arith, Result, Ok, Err}
use Rattle.std.proofs.KnownBytes.{Appends-nil, Appends-trans}
use Rattle.std.proofs.lemmas.Bool.{eqb-true, eqb-false, eq-eqb}
use Rattle.std.proofs.lemmas.List.{get_or-set_same, get_or-set_other, get_or_default, length-set}
use Rattle.pcap.specs.Sink.{Drain}
use Rattle.pcap.specs.Source.{Stream}
use Rattle.timeline.specs.declared.source.Tap.{Tap}
use Rattle.timeline.specs.declared.source.Tap.TheVariants.{Port, Underlay}
use Rattle.part_merge.specs.Left.{AreAdded, AreLeft, IsAdded, IsLeft, IsTap, UnlessDevice, of_tap}
use Rattle.part_merge.specs.Merged.{at_tap}
use Rattle.part_merge.specs.Moved.{Moves}
use Rattle.part_merge.specs.declared.fault.MergeFault.{MergeFault}

-- ---- at a port

pub left_port : (ports : List Stream) (underlay s : Stream) (p : ℕ) (text : List ℕ) (rest : Tap → List ℕ) → 0 < p → p ≤ length ports
    → AreLeft (λ t. at_tap t (Port p) text ++ rest t) ports underlay → IsLeft (rest (Port p)) s → AreLeft rest (slice_set ports (p - 1) s) underlay
left_port ports underlay s p text rest first there left here Underlay at = left Underlay tt
left_port ports underlay s p text rest first there left here (Port q) at = by (q == p) refl
  where
    inside : q ≤ length ports
    inside = omega (arith, at.1, length-set ports (p - 1) s)

    by : (b : Bool) → (q == p) ≡ b → IsLeft (rest (Port q)) (slice_index_or (slice_set ports (p - 1) s) (q - 1) underlay)
    by true is =
        let same : p ≡ q = sym (eqb-true q p is) in
        subst (λ k. IsLeft (rest (Port k)) (slice_index_or (slice_set ports (p - 1) s) (k - 1) underlay)) same
        (rw (get_or-set_same ports (p - 1) s underlay (omega (arith, first, there))) here)
    by false is =
        let apart : q - 1 ≢ p - 1 = λ e. eqb-false q p is (omega (arith, e, first, at.0)) in
        rw (get_or-set_other ports (p - 1) (q - 1) s underlay apart) (rw is at (left (Port q) (at.0, inside)))

pub added_port : (sinks : List Drain) (underlay d : Drain) (p : ℕ) (text : List ℕ) → 0 < p → p ≤ length sinks
    → IsAdded text (slice_index_or sinks (p - 1) underlay) d → AreAdded (λ t. at_tap t (Port p) text) sinks underlay (slice_set sinks (p - 1) d) underlay
added_port sinks underlay d p text first there here Underlay at = Appends-nil underlay.written
added_port sinks underlay d p text first there here (Port q) at = by (q == p) refl
  where
    by : (b : Bool) → (q == p) ≡ b → IsAdded (at_tap (Port q) (Port p) text) (slice_index_or sinks (q - 1) underlay) (slice_index_or (slice_set sinks (p - 1) d) (q - 1) underlay)
    by true is =
        let same : p ≡ q = sym (eqb-true q p is) in
        rw is
        (subst (λ k. IsAdded text (slice_index_or sinks (k - 1) underlay) (slice_index_or (slice_set sinks (p - 1) d) (k - 1) underlay)) same
        (rw (get_or-set_same sinks (p - 1) d underlay (omega (arith, first, there))) here))
    by false is =
        let apart : q - 1 ≢ p - 1 = λ e. eqb-false q p is (omega (arith, e, first, at.0)) in
        rw (is, get_or-set_other sinks (p - 1) (q - 1) d underlay apart) (Appends-nil (slice_index_or sinks (q - 1) underlay).written)

-- ---- at the underlay

pub left_underlay : (ports : List Stream) (underlay s : Stream) (text : List ℕ) (rest : Tap → List ℕ)
    → AreLeft (λ t. at_tap t Underlay text ++ rest t) ports underlay → IsLeft (rest Underlay) s → AreLeft rest ports s
left_underlay ports underlay s text rest left here Underlay at = here
left_underlay ports underlay s text rest left here (Port q) at = rw (get_or_default ports (q - 1) s underlay (omega (arith, at.0, at.1))) (left (Port q) at)

pub added_underlay : (sinks : List Drain) (underlay d : Drain) (text : List ℕ) → IsAdded text underlay d → AreAdded (λ t. at_tap t Underlay text) sinks underlay sinks d
added_underlay sinks underlay d text here Underlay at = here
added_underlay sinks underlay d text here (Port q) at =
    rw (get_or_default sinks (q - 1) d underlay (omega (arith, at.0, at.1))) (Appends-nil (slice_index_or sinks (q - 1) underlay).written)

-- ---- one after another

pub added_none : (sinks : List Drain) (underlay : Drain) → AreAdded (λ t. []) sinks underlay sinks underlay
added_none sinks underlay tap at = Appends-nil (of_tap sinks underlay tap).written

pub added_both : (a b : Tap → List ℕ) (old : List Drain) (old_underlay : Drain) (mid : List Drain) (mid_underlay : Drain) (new : List Drain) (new_underlay : Drain) → length mid ≡ length old
    → AreAdded a old old_underlay mid mid_underlay → AreAdded b mid mid_underlay new new_underlay → AreAdded (λ t. a t ++ b t) old old_underlay new new_underlay
added_both a b old old_underlay mid mid_underlay new new_underlay many first second tap at =
    Appends-trans _ (of_tap mid mid_underlay tap).written _ (a tap) (b tap) (first tap at) (second tap (also tap at))
  where
    also : (tap : Tap) → IsTap (length old) tap → IsTap (length mid) tap
    also (Port q) at = (at.0, omega (arith, at.1, many))
    also Underlay at = tt

-- ---- one record

module _ {T : Type 0} where
  pub port_moved : (ports : List Stream) (underlay s : Stream) (sinks : List Drain) (underlay_sink d : Drain) (p : ℕ) (text : List ℕ) (rest : Tap → List ℕ) (result : Result T MergeFault) → 0 < p → p ≤ length ports
      → length sinks ≡ length ports → AreLeft (λ t. at_tap t (Port p) text ++ rest t) ports underlay → UnlessDevice result (IsLeft (rest (Port p)) s × IsAdded text (slice_index_or sinks (p - 1) underlay_sink) d)
      → Moves rest (λ t. at_tap t (Port p) text) (slice_set ports (p - 1) s) underlay sinks underlay_sink (slice_set sinks (p - 1) d) underlay_sink result
  port_moved ports underlay s sinks underlay_sink d p text rest (Ok x) first there many left h =
      (left_port ports underlay s p text rest first there left h.0, added_port sinks underlay_sink d p text first (omega (arith, there, many)) h.1)
  port_moved ports underlay s sinks underlay_sink d p text rest (Err why) first there many left h = h

  pub underlay_moved : (ports : List Stream) (underlay s : Stream) (sinks : List Drain) (underlay_sink d : Drain) (text : List ℕ) (rest : Tap → List ℕ) (result : Result T MergeFault)
      → AreLeft (λ t. at_tap t Underlay text ++ rest t) ports underlay → UnlessDevice result (IsLeft (rest Underlay) s × IsAdded text underlay_sink d)
      → Moves rest (λ t. at_tap t Underlay text) ports s sinks underlay_sink sinks d result
  underlay_moved ports underlay s sinks underlay_sink d text rest (Ok x) left h = (left_underlay ports underlay s text rest left h.0, added_underlay sinks underlay_sink d text h.1)
  underlay_moved ports underlay s sinks underlay_sink d text rest (Err why) left h = h

pub left_here : (p : ℕ) (text : List ℕ) (rest : List ℕ) (s : Stream) → IsLeft (at_tap (Port p) (Port p) text ++ rest) s → IsLeft (text ++ rest) s
left_here p text rest s left = rw (eq-eqb p p refl) at left
