-- What a step of a merge blames, told of where the merge began.
use Rattle.std.proofs.Common.{◌≡◌, ◌∙◌, [], None, refl, sym, ap, subst, ℕ, ◌+◌, ◌-◌, ◌<◌, ◌==◌, ◌&&◌, nat_lt, Bool, true, false, cond, List, length, map, slice_index_or, slice_set, arith, Result, Ok, Err, IsErr, MatchBool, inl, inr}
use Rattle.std.proofs.lemmas.List.{get_or-map, get_or-set_same, get_or_default, length-map, map-set, set-get_or}
use Rattle.line_stream.specs.Lines.{IsFetched, Reader}
use Rattle.line_stream.specs.declared.fault.LinesFault.{LinesFault}
use Rattle.line_stream.specs.declared.fault.LinesFault.TheVariants as lines
use Rattle.pcap.specs.declared.text.style.Style.{Style}
use Rattle.pcap.specs.Counts.{GoesOnBy}
use Rattle.pcap.specs.Sink.{Drain, IsPut, Writes}
use Rattle.pcap.specs.Source.{New, Open, Ended, Failed, IsFilled, IsFilledFrom, IsOpened, MatchRead as MatchSource, ReadsNext, Standing, Stream, answer}
use Rattle.pcap.specs.Supply.{GivesUp}
use Rattle.pcap.specs.declared.stream.fault.SourceFault.{SourceFault}
use Rattle.pcap.specs.declared.stream.fault.SourceFault.TheVariants as source
use Rattle.timeline.specs.declared.source.Tap.{Tap}
use Rattle.timeline.specs.declared.source.Tap.TheVariants.{Port, Underlay}
use Rattle.part_merge.specs.Blame.{BlamesNoRead, BlamesNoWrite, CaptureStops, CapturesRead, CopyReads, CopyWrites, Health, Healths, LinesRead, LinesWrite, MatchRead, MatchWrite, OutputStops, PartReads, PartStops, ReadsWith, SinkStops, SinkWrites, SourceBack, SourceReads, SourceStops, UnlessBlamed, UnlessLines, PartOpens, WritesWith, captures_health, has_given_up, is_read, outputs_health, part_health, sink_health, source_health}
use Rattle.part_merge.specs.Coming.{OpenPart, UnlessPart, stopped_by}
use Rattle.part_merge.specs.Copied.{TellsEnd, stop_by}
use Rattle.part_merge.specs.Left.{IsTap, UnlessDevice, of_tap}
use Rattle.part_merge.specs.Moved.{stopped_at}
use Rattle.part_merge.specs.Whole.{behind}
use Rattle.part_merge.specs.declared.capture.Stop.{Stop}
use Rattle.part_merge.specs.declared.capture.Stop.TheVariants as stops
use Rattle.part_merge.specs.declared.fault.MergeFault.{MergeFault}
use Rattle.part_merge.specs.declared.fault.MergeFault.TheVariants as faults
use Rattle.part_lines.specs.declared.part_fault.PartFault.TheVariants as part_faults
use Rattle.part_merge.specs.declared.fault.Target.{Target}
use Rattle.part_merge.specs.declared.fault.Target.TheVariants as targets

-- ---- lists of which one thing is the same

module _ {A B : Type 0} where
  pub same_set : (f : A → B) (xs : List A) (i : ℕ) (x d : A) → i < length xs → f x ≡ f (slice_index_or xs i d) → map f (slice_set xs i x) ≡ map f xs
  same_set f xs i x d there same =
      map-set f xs i x ∙ ap (slice_set (map f xs) i) (same ∙ sym (get_or-map f xs i d (f d) there)) ∙ set-get_or (map f xs) i (f d)

  pub same_length : (f : A → B) (old new : List A) → map f new ≡ map f old → length new ≡ length old
  same_length f old new same = omega (arith, ap length same, length-map new f, length-map old f)

  pub same_at : (f : A → B) (old new : List A) (i : ℕ) (d e : A) → i < length old → map f new ≡ map f old → f (slice_index_or new i d) ≡ f (slice_index_or old i e)
  same_at f old new i d e there same =
      sym (get_or-map f new i d (f d) (omega (arith, there, same_length f old new same))) ∙ ap (λ l. slice_index_or l i (f d)) same ∙ get_or-map f old i e (f d) there

  pub same_tap : (f : A → B) (old new : List A) (old_underlay new_underlay : A) (tap : Tap) → IsTap (length old) tap → map f new ≡ map f old → f new_underlay ≡ f old_underlay
      → f (of_tap new new_underlay tap) ≡ f (of_tap old old_underlay tap)
  same_tap f old new old_underlay new_underlay (Port p) at same same_underlay = same_at f old new (p - 1) new_underlay old_underlay (omega (arith, at.0, at.1)) same
  same_tap f old new old_underlay new_underlay Underlay at same same_underlay = same_underlay

  pub same_taps : (f : A → B) (old new : List A) (tap : Tap) → map f new ≡ map f old → IsTap (length new) tap → IsTap (length old) tap
  same_taps f old new (Port p) same at = (at.0, omega (arith, at.1, same_length f old new same))
  same_taps f old new Underlay same at = tt

abbrev pub healths : List (ℕ × Bool) → ℕ × Bool → Healths
healths ports underlay = record { ports = ports; underlay = underlay }

abbrev pub health : ℕ → Healths → Health
health lines captures = record { lines = lines; captures = captures }

-- ---- an answer

module _ {T : Type 0} where
  pub match_read : (P R : ℕ → Type 0) (Q S : Type 0) (result : Result T MergeFault) → ((n : ℕ) → P n → R n) → (Q → S) → MatchRead result P Q → MatchRead result R S
  match_read P R Q S (Ok x) blamed other h = other h
  match_read P R Q S (Err (faults.Read part)) blamed other h = blamed part h
  match_read P R Q S (Err (faults.Write target)) blamed other h = other h
  match_read P R Q S (Err (faults.Missing number)) blamed other h = other h
  match_read P R Q S (Err (faults.Part part fault)) blamed other h = other h

  pub match_write : (P R : Target → Type 0) (Q S : Type 0) (result : Result T MergeFault) → ((t : Target) → P t → R t) → (Q → S) → MatchWrite result P Q → MatchWrite result R S
  match_write P R Q S (Ok x) blamed other h = other h
  match_write P R Q S (Err (faults.Read part)) blamed other h = other h
  match_write P R Q S (Err (faults.Write target)) blamed other h = blamed target h
  match_write P R Q S (Err (faults.Missing number)) blamed other h = other h
  match_write P R Q S (Err (faults.Part part fault)) blamed other h = other h

  pub no_read : (R : ℕ → Type 0) (S : Type 0) (result : Result T MergeFault) → BlamesNoRead result → S → MatchRead result R S
  no_read R S result none same = match_read (λ n. ⊥) R (Unit {0}) S result (λ n h. absurd h) (λ h. same) none

  pub no_write : (R : Target → Type 0) (S : Type 0) (result : Result T MergeFault) → BlamesNoWrite result → S → MatchWrite result R S
  no_write R S result none same = match_write (λ t. ⊥) R (Unit {0}) S result (λ t h. absurd h) (λ h. same) none

-- ---- a source

pub source_behind : (old mid new : Stream) → source_health mid ≡ source_health old → SourceStops mid new → SourceStops old new
source_behind old mid new same stops sound = by (stops (ap (λ (h : ℕ × Bool). h.1) same ∙ sound))
  where
    count : mid.supply.failures ≡ old.supply.failures
    count = ap (λ (h : ℕ × Bool). h.0) same

    by : GivesUp mid.supply new.supply → GivesUp old.supply new.supply
    by (inl more) = inl (subst (λ n. GoesOnBy 1 n new.supply.failures) count more)
    by (inr none) = inr (none.0 ∙ count, none.1)

-- an answer of `fill`
abbrev pub FillReads : Stream → Stream → Result (Unit {0}) SourceFault → Type 0
FillReads old new (Ok x) = source_health new ≡ source_health old
FillReads old new (Err source.Read) = SourceStops old new
FillReads old new (Err source.NotPcap) = source_health new ≡ source_health old
FillReads old new (Err source.BadLink) = source_health new ≡ source_health old
FillReads old new (Err source.TooLarge) = source_health new ≡ source_health old
FillReads old new (Err source.BadFraction) = source_health new ≡ source_health old

abbrev gives_up : Result (Unit {0}) SourceFault → Bool
gives_up (Ok x) = false
gives_up (Err fault) = is_read fault

given_up : (s : Standing) → has_given_up s ≡ gives_up (answer s)
given_up New = refl
given_up (Open style last) = refl
given_up (Ended is_cut) = refl
given_up (Failed fault) = refl

fill_reads : (old new : Stream) (result : Result (Unit {0}) SourceFault) → IsFilled old new result → result ≡ answer new.standing → FillReads old new result
fill_reads old new result is answered = by old.standing refl is
  where
    still : new ≡ old → (result : Result (Unit {0}) SourceFault) → result ≡ answer new.standing → FillReads old new result
    still same (Ok x) answered = ap source_health same
    still same (Err source.Read) answered = λ sound.
        let gone : has_given_up old.standing ≡ true = given_up old.standing ∙ ap (λ (s : Stream). gives_up (answer s.standing)) (sym same) ∙ ap gives_up (sym answered) in
        absurd cc
    still same (Err source.NotPcap) answered = ap source_health same
    still same (Err source.BadLink) answered = ap source_health same
    still same (Err source.TooLarge) answered = ap source_health same
    still same (Err source.BadFraction) answered = ap source_health same

    quiet : new.supply.failures ≡ old.supply.failures → has_given_up old.standing ≡ false → has_given_up new.standing ≡ false → source_health new ≡ source_health old
    quiet count before behind = rw (count, before, behind) refl

    open_ : (result : Result (Unit {0}) SourceFault) → has_given_up old.standing ≡ false → has_given_up new.standing ≡ gives_up result
        → ((style : Style) → MatchSource result (GivesUp old.supply new.supply) (ReadsNext style old.supply new.supply new.standing) → FillReads old new result)
    open_ (Ok x) before behind style h = quiet h.quiet before behind
    open_ (Err source.Read) before behind style h = λ sound. h
    open_ (Err source.NotPcap) before behind style h = quiet h.quiet before behind
    open_ (Err source.BadLink) before behind style h = quiet h.quiet before behind
    open_ (Err source.TooLarge) before behind style h = quiet h.quiet before behind
    open_ (Err source.BadFraction) before behind style h = quiet h.quiet before behind

    by : (standing : Standing) → old.standing ≡ standing → IsFilledFrom standing old new result → FillReads old new result
    by New is h = still h result answered
    by (Open style last) is h = open_ result (ap has_given_up is) (given_up new.standing ∙ ap gives_up (sym answered)) style h
    by (Ended is_cut) is h = still h result answered
    by (Failed fault) is h = still h result answered

-- a source that isn't opened
pub open_reads : (old new : Stream) (fault : SourceFault) → IsOpened {T = Unit {0}} old new (Err fault) → SourceBack fault old new
open_reads old new source.Read h = h
open_reads old new source.NotPcap h = h.quiet
open_reads old new source.BadLink h = h.quiet
open_reads old new source.TooLarge h = h.quiet
open_reads old new source.BadFraction h = h.quiet

stop_reads : (old new : Stream) (fault : SourceFault) → FillReads old new (Err fault) → CopyReads {T = Unit {0}} old new (Err (stop_by fault))
stop_reads old new source.Read h = h
stop_reads old new source.NotPcap h = h
stop_reads old new source.BadLink h = h
stop_reads old new source.TooLarge h = h
stop_reads old new source.BadFraction h = h

-- the source of a capture was filled, or a copy stops there
pub filled_reads : (old inside new : Stream) (x : Unit {0}) → inside ≡ old → IsFilled {T = Unit {0}} inside new (Ok x) → Ok x ≡ answer new.standing → source_health new ≡ source_health old
filled_reads old inside new x is filled answered = subst (λ (s : Stream). source_health new ≡ source_health s) is (fill_reads inside new (Ok x) filled answered)

pub unfilled_reads : (old inside new : Stream) (fault : SourceFault) (stop : Stop) → inside ≡ old → stop ≡ stop_by fault → IsFilled {T = Unit {0}} inside new (Err fault) → Err fault ≡ answer new.standing → CopyReads {T = Unit {0}} old new (Err stop)
unfilled_reads old inside new fault stop is stopped filled answered =
    subst (λ (s : Stream). CopyReads {T = Unit {0}} s new (Err stop)) is
    (subst (λ (e : Stop). CopyReads {T = Unit {0}} inside new (Err e)) (sym stopped) (stop_reads inside new fault (fill_reads inside new (Err fault) filled answered)))

pub stop_writes : (d : Drain) (fault : SourceFault) → CopyWrites {T = Unit {0}} d d (Err (stop_by fault))
stop_writes d source.Read = refl
stop_writes d source.NotPcap = refl
stop_writes d source.BadLink = refl
stop_writes d source.TooLarge = refl
stop_writes d source.BadFraction = refl

pub stopped_reads : (part : ℕ) (tap : Tap) (old new : Stream) (stop : Stop) → CopyReads {T = Unit {0}} old new (Err stop) → SourceReads {T = Unit {0}} part old new (Err (stopped_at part tap stop))
stopped_reads part tap old new stops.Read h = (refl, h)
stopped_reads part tap old new stops.Write h = h
stopped_reads part tap old new (stops.Wrong fault) h = h

-- a capture at its end blames no write
pub end_no_write : (part : ℕ) (tap : Tap) (s : Stream) (stop : Stop) → TellsEnd {T = Unit {0}} s (Err stop) → BlamesNoWrite {T = Unit {0}} (Err (stopped_at part tap stop))
end_no_write part tap s stops.Read h = tt
end_no_write part tap s stops.Write h = h
end_no_write part tap s (stops.Wrong fault) h = tt

pub stopped_writes : (part : ℕ) (tap : Tap) (old new : Drain) (stop : Stop) → CopyWrites {T = Unit {0}} old new (Err stop) → SinkWrites {T = Unit {0}} tap old new (Err (stopped_at part tap stop))
stopped_writes part tap old new stops.Read h = h
stopped_writes part tap old new stops.Write h = (refl, h)
stopped_writes part tap old new (stops.Wrong fault) h = h

-- ---- a sink

pub sink_behind : (old mid new : Drain) → sink_health mid ≡ sink_health old → SinkStops mid new → SinkStops old new
sink_behind old mid new same stops sound =
    subst (λ n. GoesOnBy 1 n new.failures) (ap (λ (h : ℕ × Bool). h.0) same) (stops (ap (λ (h : ℕ × Bool). h.1) same ∙ sound))

module _ {T E : Type 0} where
  -- an answer of a sink
  abbrev pub PutWrites : Drain → Drain → Result T E → Type 0
  PutWrites old new (Ok x) = sink_health new ≡ sink_health old
  PutWrites old new (Err e) = SinkStops old new

  pub put_writes : (old new : Drain) (text : List ℕ) (result : Result T E) → IsPut old new text result → PutWrites old new result
  put_writes old new text result put = by old.is_failed refl put
    where
      failed : (result : Result T E) → old.is_failed ≡ true → IsErr result → PutWrites old new result
      failed (Ok x) gone never = absurd cc
      failed (Err e) gone is = λ sound. absurd cc

      wrote : (result : Result T E) → old.is_failed ≡ false → Writes old new text result → PutWrites old new result
      wrote (Ok x) sound h = rw (h.0, h.1, sound) refl
      wrote (Err e) sound h = λ sound. h.1

      by : (b : Bool) → old.is_failed ≡ b → MatchBool b (IsErr result × (new ≡ old)) (Writes old new text result) → PutWrites old new result
      by true is h = failed result is h.0
      by false is h = wrote result is h

-- ---- the captures of a part

pub capture_behind : (old : List Stream) (old_underlay : Stream) (mid : List Stream) (mid_underlay : Stream) (new : List Stream) (new_underlay : Stream)
    → captures_health mid mid_underlay ≡ captures_health old old_underlay → CaptureStops mid mid_underlay new new_underlay → CaptureStops old old_underlay new new_underlay
capture_behind old old_underlay mid mid_underlay new new_underlay same (tap, at, stops) =
    let ports = ap (λ (h : Healths). h.ports) same in
    let there = same_taps source_health old mid tap ports at in
    (tap, there, source_behind (of_tap old old_underlay tap) (of_tap mid mid_underlay tap) (of_tap new new_underlay tap) (same_tap source_health old mid old_underlay mid_underlay tap there ports (ap (λ (h : Healths). h.underlay) same)) stops)

module _ {T : Type 0} where
  pub captures_behind : (part : ℕ) (old : List Stream) (old_underlay : Stream) (mid : List Stream) (mid_underlay : Stream) (new : List Stream) (new_underlay : Stream) (result : Result T MergeFault)
      → captures_health mid mid_underlay ≡ captures_health old old_underlay → CapturesRead part mid mid_underlay new new_underlay result → CapturesRead part old old_underlay new new_underlay result
  captures_behind part old old_underlay mid mid_underlay new new_underlay result same =
      match_read (λ n. (n ≡ part) × CaptureStops mid mid_underlay new new_underlay) (λ n. (n ≡ part) × CaptureStops old old_underlay new new_underlay)
      (captures_health new new_underlay ≡ captures_health mid mid_underlay) (captures_health new new_underlay ≡ captures_health old old_underlay) result
      (λ n h. (h.0, capture_behind old old_underlay mid mid_underlay new new_underlay same h.1)) (λ h. h ∙ same)

  pub place_reads : (part : ℕ) (ports : List Stream) (underlay s d : Stream) (i : ℕ) (result : Result T MergeFault) → i < length ports
      → SourceReads part (slice_index_or ports i d) s result → CapturesRead part ports underlay (slice_set ports i s) underlay result
  place_reads part ports underlay s d i result there =
      match_read (λ n. (n ≡ part) × SourceStops (slice_index_or ports i d) s) (λ n. (n ≡ part) × CaptureStops ports underlay (slice_set ports i s) underlay)
      (source_health s ≡ source_health (slice_index_or ports i d)) (captures_health (slice_set ports i s) underlay ≡ captures_health ports underlay) result
      (λ n h. (h.0, (Port (i + 1), (omega arith, omega (arith, there)), stopped h.1))) (λ h. ap (λ l. healths l (source_health underlay)) (same_set source_health ports i s d there h))
    where
      index : i + 1 - 1 ≡ i
      index = omega arith

      stopped : SourceStops (slice_index_or ports i d) s → SourceStops (slice_index_or ports (i + 1 - 1) underlay) (slice_index_or (slice_set ports i s) (i + 1 - 1) underlay)
      stopped h = rw (index, get_or-set_same ports i s underlay there, get_or_default ports i underlay d there) h

  pub underlay_reads : (part : ℕ) (ports : List Stream) (underlay s : Stream) (result : Result T MergeFault) → SourceReads part underlay s result → CapturesRead part ports underlay ports s result
  underlay_reads part ports underlay s result =
      match_read (λ n. (n ≡ part) × SourceStops underlay s) (λ n. (n ≡ part) × CaptureStops ports underlay ports s)
      (source_health s ≡ source_health underlay) (captures_health ports s ≡ captures_health ports underlay) result
      (λ n h. (h.0, (Underlay, tt, h.1))) (λ h. ap (healths (map source_health ports)) h)

  pub part_reads : (part : ℕ) (old new : OpenPart) (result : Result T MergeFault) → new.reader ≡ old.reader → CapturesRead part old.ports old.underlay new.ports new.underlay result → PartReads part old new result
  part_reads part old new result same =
      match_read (λ n. (n ≡ part) × CaptureStops old.ports old.underlay new.ports new.underlay) (λ n. (n ≡ part) × PartStops old new)
      (captures_health new.ports new.underlay ≡ captures_health old.ports old.underlay) (part_health new ≡ part_health old) result
      (λ n h. (h.0, inr h.1)) (λ h. rw same (ap (health old.reader.failures) h))

  -- the same of a part whose captures are lent: where they stand inside it
  pub captures_part : (part : ℕ) (old inside new : OpenPart) (ports : List Stream) (result : Result T MergeFault) → inside ≡ old → ports ≡ inside.ports → new.reader ≡ inside.reader
      → CapturesRead part ports inside.underlay new.ports new.underlay result → PartReads part old new result
  captures_part part old inside new ports result is same reader reads =
      subst (λ (s : OpenPart). PartReads part s new result) is
      (part_reads part inside new result reader (subst (λ (l : List Stream). CapturesRead part l inside.underlay new.ports new.underlay result) same reads))

-- ---- a part

pub part_stops : (old mid new : OpenPart) → part_health mid ≡ part_health old → PartStops mid new → PartStops old new
part_stops old mid new same (inl more) = inl (subst (λ n. GoesOnBy 1 n new.reader.failures) (ap (λ (h : Health). h.lines) same) more)
part_stops old mid new same (inr stops) = inr (capture_behind old.ports old.underlay mid.ports mid.underlay new.ports new.underlay (ap (λ (h : Health). h.captures) same) stops)

pub lines_reads : (part : ℕ) (old new : Reader) (fault : LinesFault) → IsFetched old new (Err fault) → LinesRead {T = Unit {0}} part old new (Err (stopped_by part fault))
lines_reads part old new lines.Read h = (refl, h)
lines_reads part old new lines.TooLong h = h.0

pub lines_no_write : (part : ℕ) (fault : LinesFault) → BlamesNoWrite {T = Unit {0}} (Err (stopped_by part fault))
lines_no_write part lines.Read = tt
lines_no_write part lines.TooLong = tt

module _ {T : Type 0} where
  pub part_behind : (part : ℕ) (old mid new : OpenPart) (result : Result T MergeFault) → part_health mid ≡ part_health old → PartReads part mid new result → PartReads part old new result
  part_behind part old mid new result same =
      match_read (λ n. (n ≡ part) × PartStops mid new) (λ n. (n ≡ part) × PartStops old new) (part_health new ≡ part_health mid) (part_health new ≡ part_health old) result
      (λ n h. (h.0, part_stops old mid new same h.1)) (λ h. h ∙ same)

  pub lines_part : (part : ℕ) (old new : OpenPart) (result : Result T MergeFault) → new.ports ≡ old.ports → new.underlay ≡ old.underlay → LinesRead part old.reader new.reader result → PartReads part old new result
  lines_part part old new result ports underlay =
      match_read (λ n. (n ≡ part) × GoesOnBy 1 old.reader.failures new.reader.failures) (λ n. (n ≡ part) × PartStops old new)
      (new.reader.failures ≡ old.reader.failures) (part_health new ≡ part_health old) result
      (λ n h. (h.0, inl h.1)) (λ h. rw (h, ports, underlay) refl)

  pub set_reads : (parts : List OpenPart) (index : ℕ) (d s : OpenPart) (result : Result T MergeFault) → index < length parts → PartReads index (slice_index_or parts index d) s result → ReadsWith parts (slice_set parts index s) result
  set_reads parts index d s result there =
      match_read (λ n. (n ≡ index) × PartStops (slice_index_or parts index d) s) (λ n. (n < length parts) × ((x : OpenPart) → PartStops (slice_index_or parts n x) (slice_index_or (slice_set parts index s) n x)))
      (part_health s ≡ part_health (slice_index_or parts index d)) (map part_health (slice_set parts index s) ≡ map part_health parts) result
      (λ n h. stopped n h.0 h.1) (same_set part_health parts index s d there)
    where
      stopped : (n : ℕ) → n ≡ index → PartStops (slice_index_or parts index d) s → (n < length parts) × ((x : OpenPart) → PartStops (slice_index_or parts n x) (slice_index_or (slice_set parts index s) n x))
      stopped n is stops = rw is (there, λ x. rw (get_or-set_same parts index s x there, get_or_default parts index x d there) stops)

  pub reads_behind : (old mid new : List OpenPart) (result : Result T MergeFault) → map part_health mid ≡ map part_health old → ReadsWith mid new result → ReadsWith old new result
  reads_behind old mid new result same =
      match_read (λ n. (n < length mid) × ((x : OpenPart) → PartStops (slice_index_or mid n x) (slice_index_or new n x))) (λ n. (n < length old) × ((x : OpenPart) → PartStops (slice_index_or old n x) (slice_index_or new n x)))
      (map part_health new ≡ map part_health mid) (map part_health new ≡ map part_health old) result (λ n h. stopped n h.0 h.1) (λ h. h ∙ same)
    where
      stopped : (n : ℕ) → n < length mid → ((x : OpenPart) → PartStops (slice_index_or mid n x) (slice_index_or new n x)) → (n < length old) × ((x : OpenPart) → PartStops (slice_index_or old n x) (slice_index_or new n x))
      stopped n lt stops =
          let there : n < length old = omega (arith, lt, same_length part_health old mid same) in
          (there, λ x. part_stops (slice_index_or old n x) (slice_index_or mid n x) (slice_index_or new n x) (same_at part_health old mid n x x there same) (stops x))

-- ---- the outputs

pub output_behind : (target : Target) (old : List Drain) (old_underlay : Drain) (failures : ℕ) (mid : List Drain) (mid_underlay : Drain) (failures_mid : ℕ) (new : List Drain) (new_underlay : Drain) (failures_now : ℕ)
    → outputs_health mid mid_underlay failures_mid ≡ outputs_health old old_underlay failures → OutputStops target mid mid_underlay failures_mid new new_underlay failures_now
    → OutputStops target old old_underlay failures new new_underlay failures_now
output_behind (targets.Capture tap) old old_underlay failures mid mid_underlay failures_mid new new_underlay failures_now same stops =
    let ports = ap (λ (h : Health). h.captures.ports) same in
    let there = same_taps sink_health old mid tap ports stops.0 in
    (there, sink_behind (of_tap old old_underlay tap) (of_tap mid mid_underlay tap) (of_tap new new_underlay tap) (same_tap sink_health old mid old_underlay mid_underlay tap there ports (ap (λ (h : Health). h.captures.underlay) same)) stops.1)
output_behind targets.Decisions old old_underlay failures mid mid_underlay failures_mid new new_underlay failures_now same stops =
    subst (λ n. GoesOnBy 1 n failures_now) (ap (λ (h : Health). h.lines) same) stops

module _ {T : Type 0} where
  pub writes_behind : (old : List Drain) (old_underlay : Drain) (failures : ℕ) (mid : List Drain) (mid_underlay : Drain) (failures_mid : ℕ) (new : List Drain) (new_underlay : Drain) (failures_now : ℕ) (result : Result T MergeFault)
      → outputs_health mid mid_underlay failures_mid ≡ outputs_health old old_underlay failures → WritesWith mid mid_underlay failures_mid new new_underlay failures_now result
      → WritesWith old old_underlay failures new new_underlay failures_now result
  writes_behind old old_underlay failures mid mid_underlay failures_mid new new_underlay failures_now result same =
      match_write (λ t. OutputStops t mid mid_underlay failures_mid new new_underlay failures_now) (λ t. OutputStops t old old_underlay failures new new_underlay failures_now)
      (outputs_health new new_underlay failures_now ≡ outputs_health mid mid_underlay failures_mid) (outputs_health new new_underlay failures_now ≡ outputs_health old old_underlay failures) result
      (λ t h. output_behind t old old_underlay failures mid mid_underlay failures_mid new new_underlay failures_now same h) (λ h. h ∙ same)

  pub place_writes : (sinks : List Drain) (underlay d x : Drain) (failures i p : ℕ) (result : Result T MergeFault) → i < length sinks → p ≡ i + 1
      → SinkWrites (Port p) (slice_index_or sinks i x) d result → WritesWith sinks underlay failures (slice_set sinks i d) underlay failures result
  place_writes sinks underlay d x failures i p result there is =
      match_write (λ t. (t ≡ targets.Capture (Port p)) × SinkStops (slice_index_or sinks i x) d) (λ t. OutputStops t sinks underlay failures (slice_set sinks i d) underlay failures)
      (sink_health d ≡ sink_health (slice_index_or sinks i x)) (outputs_health (slice_set sinks i d) underlay failures ≡ outputs_health sinks underlay failures) result
      (λ t h. rw h.0 ((omega (arith, is), omega (arith, is, there)), stopped h.1)) (λ h. ap (λ l. health failures (healths l (sink_health underlay))) (same_set sink_health sinks i d x there h))
    where
      index : p - 1 ≡ i
      index = omega (arith, is)

      stopped : SinkStops (slice_index_or sinks i x) d → SinkStops (slice_index_or sinks (p - 1) underlay) (slice_index_or (slice_set sinks i d) (p - 1) underlay)
      stopped h = rw (index, get_or-set_same sinks i d underlay there, get_or_default sinks i underlay x there) h

  pub underlay_writes : (sinks : List Drain) (underlay d : Drain) (failures : ℕ) (result : Result T MergeFault)
      → SinkWrites Underlay underlay d result → WritesWith sinks underlay failures sinks d failures result
  underlay_writes sinks underlay d failures result =
      match_write (λ t. (t ≡ targets.Capture Underlay) × SinkStops underlay d) (λ t. OutputStops t sinks underlay failures sinks d failures)
      (sink_health d ≡ sink_health underlay) (outputs_health sinks d failures ≡ outputs_health sinks underlay failures) result
      (λ t h. rw h.0 (tt, h.1)) (λ h. ap (λ u. health failures (healths (map sink_health sinks) u)) h)

  -- the capture of a port in a loop over them: no output failed before
  pub ports_writes : (old sinks : List Drain) (underlay d x : Drain) (failures i : ℕ) (result : Result T MergeFault) → map sink_health sinks ≡ map sink_health old → i < length sinks
      → SinkWrites (Port (i + 1)) (slice_index_or sinks i x) d result → WritesWith old underlay failures (slice_set sinks i d) underlay failures result
  ports_writes old sinks underlay d x failures i result same there writes =
      writes_behind old underlay failures sinks underlay failures (slice_set sinks i d) underlay failures result (ap (λ l. health failures (healths l (sink_health underlay))) same)
      (place_writes sinks underlay d x failures i (i + 1) result there refl writes)

  -- the lines alone were written
  pub lines_writes : (failures failures_mid failures_now : ℕ) (result : Result T MergeFault) → failures_mid ≡ failures → LinesWrite failures_mid failures_now result → LinesWrite failures failures_now result
  lines_writes failures failures_mid failures_now result same writes = λ sinks underlay.
      writes_behind sinks underlay failures sinks underlay failures_mid sinks underlay failures_now result (ap (outputs_health sinks underlay) same) (writes sinks underlay)

-- where no output failed, the lines' didn't
pub lines_alone : (failures failures_now : ℕ) → LinesWrite {T = Unit {0}} failures failures_now (Ok tt) → failures_now ≡ failures
lines_alone failures failures_now same = ap (λ (h : Health). h.lines) (same [] nowhere)
  where
    nowhere : Drain
    nowhere = record { written = None; failures = 0; is_failed = false; held = [] }

-- ---- numbers that fall

pub behind_blames_none : (last part number : ℕ) → BlamesNoRead {T = Unit {0}} (Err (behind last part number)) × BlamesNoWrite {T = Unit {0}} (Err (behind last part number))
behind_blames_none last part number = by (number == last && nat_lt 0 number)
  where
    falls : Bool → MergeFault
    falls b = cond b (faults.Part part (part_faults.Doubled number)) (faults.Part part (part_faults.Falls number))

    by : (b : Bool) → BlamesNoRead {T = Unit {0}} (Err (falls b)) × BlamesNoWrite {T = Unit {0}} (Err (falls b))
    by true = (tt, tt)
    by false = (tt, tt)

-- ---- the whole

module _ {T : Type 0} where
  -- a merge that is stopped by a device alone is stopped by the one that it blames
  pub unless_blamed : (parts parts_now : List OpenPart) (old : List Drain) (old_underlay : Drain) (failures : ℕ) (new : List Drain) (new_underlay : Drain) (failures_now : ℕ) (result : Result T MergeFault) (P : Type 0)
      → UnlessDevice result P → ReadsWith parts parts_now result → WritesWith old old_underlay failures new new_underlay failures_now result
      → UnlessBlamed parts parts_now old old_underlay failures new new_underlay failures_now result P
  unless_blamed parts parts_now old old_underlay failures new new_underlay failures_now (Ok x) P unless reads writes = unless
  unless_blamed parts parts_now old old_underlay failures new new_underlay failures_now (Err (faults.Read part)) P unless reads writes = reads
  unless_blamed parts parts_now old old_underlay failures new new_underlay failures_now (Err (faults.Write target)) P unless reads writes = writes
  unless_blamed parts parts_now old old_underlay failures new new_underlay failures_now (Err (faults.Missing number)) P unless reads writes = unless
  unless_blamed parts parts_now old old_underlay failures new new_underlay failures_now (Err (faults.Part part fault)) P unless reads writes = unless

-- a part that a device alone keeps from being opened has lines whose read failed
pub unless_lines : (part : ℕ) (old : Reader) (ports : List Stream) (underlay : Stream) (P : OpenPart → Type 0) (result : Result OpenPart (MergeFault × Reader)) → UnlessPart result P → PartOpens part old ports underlay result → UnlessLines part old result
unless_lines part old ports underlay P (Ok s) unless opens = tt
unless_lines part old ports underlay P (Err (faults.Read blamed, back)) unless opens = opens.0
unless_lines part old ports underlay P (Err (faults.Write target, back)) unless opens = opens.1
unless_lines part old ports underlay P (Err (faults.Missing number, back)) unless opens = unless
unless_lines part old ports underlay P (Err (faults.Part other fault, back)) unless opens = unless
