-- What is out where a read of a part failed.
use Rattle.std.proofs.Common.{◌≡◌, ◌∙◌, refl, sym, ap, subst, ℕ, ◌+◌, ◌-◌, ◌<◌, Bool, true, false, List, [], length, slice_index_or, slice_set, arith, Option, Result, Ok, Err, inl, inr}
use Rattle.std.proofs.KnownBytes.{Appends-kept, Appends-nil, Appends-trans, Keeps-refl}
use Rattle.std.proofs.lemmas.Bool.{cases_eq, not-true}
use Rattle.std.proofs.lemmas.List.{get_or-set_other, get_or-set_same, get_or_default, set-get_or}
use Rattle.std.specs.Io.KnownBytes.{Appends, Keeps}
use Rattle.std.specs.List.{concat}
use Rattle.std.specs.Prelude.{OnOk, not}
use Rattle.pcap.specs.Sink.{Drain}
use Rattle.pcap.specs.Source.{MatchRead as MatchSource, Stream, holds_next}
use Rattle.pcap.specs.declared.stream.fault.SourceFault.{SourceFault}
use Rattle.pcap.specs.declared.stream.fault.SourceFault.TheVariants as source
use Rattle.timeline.specs.Drains.{PortsOut}
use Rattle.timeline.specs.declared.source.Tap.{Tap}
use Rattle.timeline.specs.declared.source.Tap.TheVariants.{Port, Underlay}
use Rattle.line_stream.specs.declared.fault.LinesFault.{LinesFault}
use Rattle.line_stream.specs.declared.fault.LinesFault.TheVariants as lines
use Rattle.part_merge.specs.Blame.{MatchRead}
use Rattle.part_merge.specs.Coming.{stopped_by}
use Rattle.part_merge.specs.Copied.{stop_by}
use Rattle.part_merge.specs.Left.{AreAdded, AreKept, IsTap, UnlessDevice, of_tap}
use Rattle.part_merge.specs.Moved.{Moves, stopped_at}
use Rattle.part_merge.specs.Numbered.{AddsCuts, AddsLine}
use Rattle.part_merge.specs.Waiting.{AllOut, AreOutAtRead, AtRead, CapturesOut, IsOutAtRead, TakesRead}
use Rattle.part_merge.specs.declared.capture.Stop.{Stop}
use Rattle.part_merge.specs.declared.capture.Stop.TheVariants as stops
use Rattle.part_merge.specs.declared.fault.MergeFault.{MergeFault}
use Rattle.part_merge.specs.declared.fault.MergeFault.TheVariants as faults
use Rattle.part_merge.specs.declared.coming.Coming.{Coming}
use Rattle.part_merge.proofs.Blaming.{match_read}

-- ---- what is handed on

-- those in front of this one hold nothing back
abbrev pub OutBefore : ℕ → List Drain → Type 0
OutBefore i sinks = (x : Drain) (k : ℕ) → k < i → (slice_index_or sinks k x).held ≡ []

pub one_more_out : (sinks : List Drain) (i : ℕ) (new : Drain) → i < length sinks → OutBefore i sinks → new.held ≡ [] → OutBefore (i + 1) (slice_set sinks i new)
one_more_out sinks i new there so_far out = λ x k lt. elim (cases_eq k i) [
  | inl same ↦ rw (same, get_or-set_same sinks i new x there) out
  | inr apart ↦ rw (get_or-set_other sinks i k new x apart) (so_far x k (omega (arith, lt, apart)))
]

module _ {T : Type 0} where
  pub captures_out : (ports : List Drain) (underlay : Drain) (result : Result T MergeFault) → PortsOut ports → OnOk result (underlay.held ≡ []) → OnOk result (CapturesOut ports underlay)
  captures_out ports underlay (Ok x) ports_out out = record { ports = ports_out; underlay = out }
  captures_out ports underlay (Err fault) ports_out out = tt

  pub all_out : (ports : List Drain) (underlay : Drain) (lines : List ℕ) (result : Result T MergeFault) → CapturesOut ports underlay → OnOk result (lines ≡ []) → OnOk result (AllOut ports underlay lines)
  all_out ports underlay lines (Ok x) captures out = record { captures = captures; lines = out }
  all_out ports underlay lines (Err fault) captures out = tt

-- ---- a read of a capture

pub stop_waits : (fault : SourceFault) (P Q : Type 0) → MatchSource {T = Unit {0}} (Err fault) P (Unit {0}) → Q → AtRead {T = Unit {0}} (Err (stop_by fault)) (P × Q)
stop_waits source.Read P Q lacked q = (lacked, q)
stop_waits source.NotPcap P Q lacked q = tt
stop_waits source.BadLink P Q lacked q = tt
stop_waits source.TooLarge P Q lacked q = tt
stop_waits source.BadFraction P Q lacked q = tt

pub stopped_waits : (part : ℕ) (tap : Tap) (stop : Stop) (P : Type 0) → AtRead {T = Unit {0}} (Err stop) P → MatchRead {T = Unit {0}} (Err (stopped_at part tap stop)) (λ n. P) (Unit {0})
stopped_waits part tap stops.Read P h = h
stopped_waits part tap stops.Write P h = tt
stopped_waits part tap (stops.Wrong fault) P h = tt

pub lacks_port : (ports : List Stream) (underlay d : Stream) (i p : ℕ) → p ≡ i + 1 → i < length ports → not (holds_next (slice_index_or ports i d)) ≡ false → TakesRead ports underlay (Port p) → ⊥
lacks_port ports underlay d i p is there holds takes =
    let index : p - 1 ≡ i = omega (arith, is) in
    let same : slice_index_or ports (p - 1) underlay ≡ slice_index_or ports i d = ap (λ k. slice_index_or ports k underlay) index ∙ get_or_default ports i underlay d there in
    let lacks : not (holds_next (slice_index_or ports i d)) ≡ true = ap (λ (s : Stream). not (holds_next s)) (sym same) ∙ ap not takes.1 in
    let never : true ≡ false = sym lacks ∙ holds in
    absurd cc

pub takes_port : (ports : List Stream) (underlay d : Stream) (i p : ℕ) → p ≡ i + 1 → i < length ports → not (holds_next (slice_index_or ports i d)) ≡ true → TakesRead ports underlay (Port p)
takes_port ports underlay d i p is there lacks =
    let index : p - 1 ≡ i = omega (arith, is) in
    let same : slice_index_or ports (p - 1) underlay ≡ slice_index_or ports i d = ap (λ k. slice_index_or ports k underlay) index ∙ get_or_default ports i underlay d there in
    ((omega (arith, is), omega (arith, is, there)), ap holds_next same ∙ not-true _ lacks)

pub lacks_underlay : (ports : List Stream) (underlay : Stream) → not (holds_next underlay) ≡ false → TakesRead ports underlay Underlay → ⊥
lacks_underlay ports underlay holds takes =
    let never : true ≡ false = sym (ap not takes.1) ∙ holds in
    absurd cc

module _ {T : Type 0} where
  pub place_waits : (ports : List Stream) (underlay d : Stream) (sinks : List Drain) (new x : Drain) (i p : ℕ) (result : Result T MergeFault) → p ≡ i + 1 → i < length ports → i < length sinks
      → MatchRead result (λ n. (holds_next (slice_index_or ports i d) ≡ false) × (new ≡ slice_index_or sinks i x)) (Unit {0})
      → MatchRead result (λ n. TakesRead ports underlay (Port p) × (slice_set sinks i new ≡ sinks)) (Unit {0})
  place_waits ports underlay d sinks new x i p result is there inside =
      match_read (λ n. (holds_next (slice_index_or ports i d) ≡ false) × (new ≡ slice_index_or sinks i x)) (λ n. TakesRead ports underlay (Port p) × (slice_set sinks i new ≡ sinks)) (Unit {0}) (Unit {0}) result
      (λ n h. (((omega (arith, is), omega (arith, is, there)), ap holds_next same ∙ h.0), ap (slice_set sinks i) h.1 ∙ set-get_or sinks i x)) (λ h. tt)
    where
      index : p - 1 ≡ i
      index = omega (arith, is)

      same : slice_index_or ports (p - 1) underlay ≡ slice_index_or ports i d
      same = ap (λ k. slice_index_or ports k underlay) index ∙ get_or_default ports i underlay d there

  pub port_waits : (ports : List Stream) (underlay : Stream) (tap : Tap) (old new : List Drain) (underlay_sink : Drain) (result : Result T MergeFault)
      → MatchRead result (λ n. TakesRead ports underlay tap × (new ≡ old)) (Unit {0})
      → MatchRead result (λ n. TakesRead ports underlay tap × (new ≡ old) × (underlay_sink ≡ underlay_sink)) (Unit {0})
  port_waits ports underlay tap old new underlay_sink result =
      match_read (λ n. TakesRead ports underlay tap × (new ≡ old)) (λ n. TakesRead ports underlay tap × (new ≡ old) × (underlay_sink ≡ underlay_sink)) (Unit {0}) (Unit {0}) result
      (λ n h. (h.0, h.1, refl)) (λ h. tt)

  pub underlay_waits : (ports : List Stream) (underlay : Stream) (sinks : List Drain) (old new : Drain) (result : Result T MergeFault)
      → MatchRead result (λ n. (holds_next underlay ≡ false) × (new ≡ old)) (Unit {0})
      → MatchRead result (λ n. TakesRead ports underlay Underlay × (sinks ≡ sinks) × (new ≡ old)) (Unit {0})
  underlay_waits ports underlay sinks old new result =
      match_read (λ n. (holds_next underlay ≡ false) × (new ≡ old)) (λ n. TakesRead ports underlay Underlay × (sinks ≡ sinks) × (new ≡ old)) (Unit {0}) (Unit {0}) result
      (λ n h. ((tt, h.0), refl, h.1)) (λ h. tt)

-- ---- all was handed on before

-- a read may wait where one is made, and what is done before those that may wait was done
pub done_before : (waits may_wait : Bool) (P Q : Type 0) → (waits ≡ false → may_wait ≡ true → P → ⊥) → (waits ≡ true → Q) → P → may_wait ≡ true → Q
done_before true may_wait P Q unless done p may = done refl
done_before false may_wait P Q unless done p may = absurd (unless refl may p)

module _ {T : Type 0} where
  -- no read is blamed, so nothing is asked
  pub none_waits : (P : ℕ → Type 0) (result : Result T MergeFault) → MatchRead result (λ n. ⊥) (Unit {0}) → MatchRead result P (Unit {0})
  none_waits P result none = match_read (λ n. ⊥) P (Unit {0}) (Unit {0}) result (λ n h. absurd h) (λ h. tt) none

  pub copy_waits : (waits may_wait : Bool) (ports : List Stream) (underlay : Stream) (tap : Tap) (mid new : List Drain) (mid_underlay new_underlay : Drain) (lines : List ℕ) (result : Result T MergeFault)
      → (waits ≡ false → may_wait ≡ true → TakesRead ports underlay tap → ⊥) → (waits ≡ true → AllOut mid mid_underlay lines)
      → MatchRead result (λ n. TakesRead ports underlay tap × (new ≡ mid) × (new_underlay ≡ mid_underlay)) (Unit {0})
      → IsOutAtRead may_wait new new_underlay lines result
  copy_waits waits may_wait ports underlay tap mid new mid_underlay new_underlay lines result unless done =
      match_read (λ n. TakesRead ports underlay tap × (new ≡ mid) × (new_underlay ≡ mid_underlay)) (λ n. may_wait ≡ true → AllOut new new_underlay lines) (Unit {0}) (Unit {0}) result
      (λ n h may. rw (h.1, h.2) (done_before waits may_wait (TakesRead ports underlay tap) (AllOut mid mid_underlay lines) unless done h.0 may)) (λ h. tt)

  -- the lines went on, and before them the captures
  pub line_waits : (waits may_wait held : Bool) (ports : List Drain) (underlay : Drain) (lines : List ℕ) (result : Result T MergeFault)
      → (waits ≡ false → may_wait ≡ true → held ≡ true) → (waits ≡ true → CapturesOut ports underlay)
      → MatchRead result (λ n. held ≡ false) (Unit {0}) → AreOutAtRead may_wait lines result → IsOutAtRead may_wait ports underlay lines result
  line_waits waits may_wait held ports underlay lines (Ok x) unless done lacked out = tt
  line_waits waits may_wait held ports underlay lines (Err (faults.Read part)) unless done lacked out = λ may.
      record { captures = done_before waits may_wait (held ≡ false) (CapturesOut ports underlay) (λ no is lacks. let never : true ≡ false = sym (unless no is) ∙ lacks in absurd cc) done lacked may; lines = out may }
  line_waits waits may_wait held ports underlay lines (Err (faults.Write target)) unless done lacked out = tt
  line_waits waits may_wait held ports underlay lines (Err (faults.Missing number)) unless done lacked out = tt
  line_waits waits may_wait held ports underlay lines (Err (faults.Part part fault)) unless done lacked out = tt

  pub next_waits : (waits may_wait held : Bool) (lines : List ℕ) (result : Result T MergeFault) → (waits ≡ false → may_wait ≡ true → held ≡ true) → (waits ≡ true → lines ≡ [])
      → MatchRead result (λ n. held ≡ false) (Unit {0}) → AreOutAtRead may_wait lines result
  next_waits waits may_wait held lines result unless done =
      match_read (λ n. held ≡ false) (λ n. may_wait ≡ true → lines ≡ []) (Unit {0}) (Unit {0}) result
      (λ n lacked may. done_before waits may_wait (held ≡ false) (lines ≡ []) (λ no is lacks. let never : true ≡ false = sym (unless no is) ∙ lacks in absurd cc) done lacked may) (λ h. tt)

  -- the lines are out at any answer, and the captures were before
  pub end_waits : (may_wait : Bool) (lines : List ℕ) (result : Result T MergeFault) → (may_wait ≡ true → lines ≡ []) → AreOutAtRead may_wait lines result
  end_waits may_wait lines (Ok x) out = tt
  end_waits may_wait lines (Err (faults.Read part)) out = out
  end_waits may_wait lines (Err (faults.Write target)) out = tt
  end_waits may_wait lines (Err (faults.Missing number)) out = tt
  end_waits may_wait lines (Err (faults.Part part fault)) out = tt

  pub both_waits : (may_wait : Bool) (ports : List Drain) (underlay : Drain) (lines : List ℕ) (result : Result T MergeFault) → (may_wait ≡ true → CapturesOut ports underlay) → AreOutAtRead may_wait lines result
      → IsOutAtRead may_wait ports underlay lines result
  both_waits may_wait ports underlay lines result captures =
      match_read (λ n. may_wait ≡ true → lines ≡ []) (λ n. may_wait ≡ true → AllOut ports underlay lines) (Unit {0}) (Unit {0}) result (λ n h may. record { captures = captures may; lines = h may }) (λ h. tt)

-- ---- what is handed on before a record is copied

pub nothing_handed : (ports : List Drain) (underlay : Drain) → AreKept ports underlay ports underlay
nothing_handed ports underlay = λ tap at. Keeps-refl (of_tap ports underlay tap).written

pub kept_appends : (a b c : Option (List ℕ)) (bs : List ℕ) → Keeps a b → Appends b c bs → Appends a c bs
kept_appends a b c bs kept added = Appends-trans a b c [] bs (Appends-kept a a b [] (Appends-nil a) kept) added

pub kept_added : (text : Tap → List ℕ) (old mid new : List Drain) (old_underlay mid_underlay new_underlay : Drain) → length mid ≡ length old → AreKept old old_underlay mid mid_underlay
    → AreAdded text mid mid_underlay new new_underlay → AreAdded text old old_underlay new new_underlay
kept_added text old mid new old_underlay mid_underlay new_underlay many kept added = λ tap at.
    kept_appends (of_tap old old_underlay tap).written (of_tap mid mid_underlay tap).written (of_tap new new_underlay tap).written (text tap) (kept tap at) (added tap (subst (λ n. IsTap n tap) (sym many) at))

module _ {T : Type 0} where
  pub kept_moves : (rest added : Tap → List ℕ) (ports : List Stream) (underlay : Stream) (old mid new : List Drain) (old_underlay mid_underlay new_underlay : Drain) (result : Result T MergeFault) → length mid ≡ length old
      → AreKept old old_underlay mid mid_underlay → Moves rest added ports underlay mid mid_underlay new new_underlay result → Moves rest added ports underlay old old_underlay new new_underlay result
  kept_moves rest added ports underlay old mid new old_underlay mid_underlay new_underlay (Ok x) many kept moves = (moves.0, kept_added added old mid new old_underlay mid_underlay new_underlay many kept moves.1)
  kept_moves rest added ports underlay old mid new old_underlay mid_underlay new_underlay (Err fault) many kept moves = moves

  pub kept_ok : (a b : Option (List ℕ)) (P : Type 0) (result : Result T MergeFault) → UnlessDevice result (P × Keeps a b) → OnOk result (P × Keeps a b)
  kept_ok a b P (Ok x) h = h
  kept_ok a b P (Err fault) h = tt

-- ---- lines that were added before nothing more was written, and behind that

module _ {T : Type 0} where
  pub kept_line : (comes : Coming) (old mid new : Option (List ℕ)) (result : Result T MergeFault) → Keeps old mid → OnOk result (AddsLine comes mid new) → OnOk result (AddsLine comes old new)
  kept_line comes old mid new (Ok x) kept added = record { line = added.line; is = added.is; added = kept_appends old mid new added.line kept added.added }
  kept_line comes old mid new (Err fault) kept added = tt

pub kept_cuts : (old mid new : Option (List ℕ)) → AddsCuts old mid → Keeps mid new → AddsCuts old new
kept_cuts old mid new added kept = record { lines = added.lines; are = added.are; added = Appends-kept old mid new (concat added.lines) added.added kept }

pub lines_lacked : (part : ℕ) (fault : LinesFault) (P : Type 0) → P → MatchRead {T = Unit {0}} (Err (stopped_by part fault)) (λ n. P) (Unit {0})
lines_lacked part lines.Read P p = p
lines_lacked part lines.TooLong P p = tt
