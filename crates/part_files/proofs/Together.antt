-- All parts of a run in files, and what is put together of them.
use Rattle.std.proofs.Common.{◌≡◌, ◌∙◌, refl, sym, ap, subst, ℕ, zero, suc, ◌<◌, ◌==◌, arith, Bool, true, false, cond, List, [], ◌∷◌, length, map, slice_index_or, Option, None, Vec, Result, Ok, Err}
use Rattle.std.specs.List.{AllByRecursion}
use Rattle.std.specs.declared.alloc.Global.{Global}
use Rattle.std.proofs.lemmas.Bool.{eqb-true}
use Rattle.wire.proofs.FirstLemmas.{same_Ok}
use Rattle.pcap.specs.Sink.{Drain}
use Rattle.timeline.specs.Timeline.{Timeline, told}
use Rattle.timeline.specs.declared.fault.TimelineFault.{TimelineFault}
use Rattle.timeline.specs.declared.timeline.Cut.{Cut}
use Rattle.decision_lines.specs.Lines.{cut_line}
use Rattle.overlay_config.specs.Change.{changes_in}
use Rattle.overlay_config.specs.Fault.{Meaning}
use Rattle.overlay_config.specs.Settings.{settings_in}
use Rattle.overlay_config.proofs.Meets.{texts_meet}
use Rattle.overlay.specs.Settings.{Settings as Rules}
use Rattle.overlay.specs.declared.settings.change.TimedChange.{TimedChange}
use Rattle.endpoint_core.specs.Opened.{settings_told}
use Rattle.segment_set.specs.Segments.{Segments}
use Rattle.capture_run.specs.Among.{by_timeline_among, cuts_among, run_among}
use Rattle.capture_run.specs.Outputs.{Outputs, outputs}
use Rattle.capture_run.specs.Run.{by_timeline, run}
use Rattle.capture_run.specs.declared.fault.RunFault.TheVariants.{PortCount}
use Rattle.noninterference.specs.Coming.{Inputs, IsRunOf, changes_of}
use Rattle.stream_run.specs.Over.{IsRunOverAmong, LeavesOver}
use Rattle.stream_run.specs.Stage.{Drains, StandAt}
use Rattle.part_merge.specs.Blame.{UnlessLines}
use Rattle.part_merge.specs.Coming.{Holds, HoldsAll, OpenPart}
use Rattle.part_merge.specs.Left.{UnlessDevice}
use Rattle.part_merge.specs.Merged.{IsRising, Piece, merged, side_by_side, texts_of_pieces}
use Rattle.part_merge.specs.Numbers.{AreNumbered, UnlessMissing, numbers}
use Rattle.part_merge.specs.Whole.{Adds, AllHold, AllRise, AreParts, cut_lines}
use Rattle.part_merge.specs.declared.fault.MergeFault.{MergeFault}
use Rattle.segment_parts.specs.Pieces.{PartAll, Told, pieces_in, pieces_of}
use Rattle.segment_parts.proofs.ChangeTexts.{text-names}
use Rattle.segment_parts.proofs.Merging.{merged-rises, part-of_run, part-rises, pieces-merged, run-merged}
use Rattle.segment_parts.proofs.Vids.{vids-told}
use Rattle.segment_parts.proofs.Writing.{numbers-rise}
use Rattle.part_merge.proofs.Missing.{unless_device}
use Rattle.part_merge.proofs.Blaming.{unless_lines}
use Rattle.line_stream.specs.Lines.{Reader}
use Rattle.part_files.specs.Files.{HoldCaptures, OpenedOver, OpensWith, Part, RanOver, ReadOver, segments_of, opened_parts}
use Rattle.part_files.proofs.Lists.{all-two, map-length}
use Rattle.part_files.proofs.Opening.{part-holds}
use Rattle.part_files.proofs.Reading.{HoldTexts, texts-held}
use Rattle.part_files.proofs.Texts.{AreReadable, ReadsBack}

-- ---- a part's run

-- its settings and its changes have a meaning, and its outputs hold what comes out of it
record Ran (segments : Segments) (settings : Meaning Rules) (changes : Meaning (List TimedChange)) (texts : List (Vec ℕ Global)) (text : List ℕ) (old new : Drains) : Type 0 where
  s : Rules
  cs : List TimedChange
  settings_are : settings ≡ Ok s
  changes_are : changes ≡ Ok cs
  leaves : LeavesOver segments s cs texts text old new (Ok tt)

ran : (segments : Segments) (settings : Meaning Rules) (changes : Meaning (List TimedChange)) (texts : List (Vec ℕ Global)) (text : List ℕ) (old new : Drains) → IsRunOverAmong segments settings changes texts text old new (Ok tt)
    → Ran segments settings changes texts text old new
ran segments (Ok s) (Ok cs) texts text old new h = record { s = s; cs = cs; settings_are = refl; changes_are = refl; leaves = h }
ran segments (Ok s) (Err fault) texts text old new h = absurd h
ran segments (Err fault) changes texts text old new h = absurd h

-- there is a whole run over the same captures
record Whole (s : Rules) (x : Inputs) : Type 0 where
  timeline : Timeline
  o : Outputs
  is : IsRunOf s x timeline o

whole-by : (segments : Segments) (s : Rules) (cs : List TimedChange) (n : ℕ) (b : Bool) (found : Result Timeline TimelineFault) (texts : Outputs)
    → cond b (by_timeline_among segments s cs n found) (Err PortCount) ≡ Ok texts
    → (timeline : Timeline) × (found ≡ Ok timeline) × (cond b (by_timeline s cs n found) (Err PortCount) ≡ Ok (outputs (settings_told s) (map (λ (c : TimedChange). c.change) cs) n timeline))
whole-by segments s cs n true (Ok timeline) texts is = (timeline, refl, refl)
whole-by segments s cs n true (Err fault) texts is = absurd cc
whole-by segments s cs n false found texts is = absurd cc

whole : (segments : Segments) (s : Rules) (x : Inputs) (texts : Outputs) → run_among segments (Ok s) (Ok x.changes) x.ports x.underlay ≡ Ok texts → Whole s x
whole segments s x texts is =
    let found = whole-by segments s x.changes (length x.ports) (length x.ports == length s.ports) (told (map (λ (c : TimedChange). c.at) x.changes) x.ports x.underlay) texts is in
    record {
      timeline = found.0;
      o = outputs (settings_told s) (changes_of x) (length x.ports) found.0;
      is = record { read = found.1; outputs = found.2 };
    }

-- it has as many captures as there are ports
port-count : (s : Rules) (cs : List TimedChange) (n : ℕ) (found : Result Timeline TimelineFault) (o : Outputs) → cond (n == length s.ports) (by_timeline s cs n found) (Err PortCount) ≡ Ok o → n ≡ length s.ports
port-count s cs n found o is = by (n == length s.ports) refl is
  where
    by : (b : Bool) → (n == length s.ports) ≡ b → cond b (by_timeline s cs n found) (Err PortCount) ≡ Ok o → n ≡ length s.ports
    by true same h = eqb-true n (length s.ports) same
    by false same h = absurd cc

-- ---- lists of parts, by number

module _ (count : ℕ) (pieces : Segments → List Piece) (cuts : Segments → List Cut) where
  abbrev HoldsOwn : Part → Type 0
  HoldsOwn p = Holds count (pieces p.segments) (map cut_line (cuts p.segments)) p.opened

  each-holds : (parts : List Part) → AllByRecursion HoldsOwn parts → (s : OpenPart) (k : ℕ) → k < length parts
      → Holds count (slice_index_or (map pieces (segments_of parts)) k []) (slice_index_or (cut_lines (map cuts (segments_of parts))) k []) (slice_index_or (opened_parts parts) k s)
  each-holds [] all s k lt = absurd (omega (arith, lt))
  each-holds (p ∷ ps) all s zero lt = all.0
  each-holds (p ∷ ps) all s (suc k) lt = each-holds ps all.1 s k (omega (arith, lt))

  all-hold : (parts : List Part) → AllByRecursion HoldsOwn parts → AllHold count (map pieces (segments_of parts)) (cut_lines (map cuts (segments_of parts))) (opened_parts parts)
  all-hold parts all = record {
    many = map-length pieces (segments_of parts) ∙ counted;
    many_cuts = map-length (λ (of_part : List Cut). map cut_line of_part) (map cuts (segments_of parts)) ∙ map-length cuts (segments_of parts) ∙ counted;
    each = λ s k lt. each-holds parts all s k (subst (λ (n : ℕ). k < n) (map-length (λ (p : Part). p.opened) parts) lt);
  }
    where
      counted : length (segments_of parts) ≡ length (opened_parts parts)
      counted = map-length (λ (p : Part). p.segments) parts ∙ sym (map-length (λ (p : Part). p.opened) parts)

all-rise : (pieces : Segments → List Piece) → ((segments : Segments) → IsRising 0 (pieces segments)) → (sets : List Segments) → AllRise (map pieces sets)
all-rise pieces each [] = tt
all-rise pieces each (segments ∷ sets) = (each segments, all-rise pieces each sets)

-- ---- all parts of a run

module _ (settings changes : List ℕ) (texts : List (Vec ℕ Global)) (text : List ℕ) (s : Rules) (cs : List TimedChange) (settings_are : settings_in settings ≡ Ok s) (changes_are : changes_in changes ≡ Ok cs) where
  x : Inputs
  x = record { changes = cs; ports = texts; underlay = text }

  module _ (timeline : Timeline) (o : Outputs) (is : IsRunOf s x timeline o) where
    ts : List Told
    ts = pieces_of (settings_told s) (changes_of x) timeline

    abbrev own_pieces : Segments → List Piece
    own_pieces segments = pieces_in segments ts

    abbrev own_cuts : Segments → List Cut
    own_cuts segments = cuts_among segments timeline.cuts

    -- a part leaves its own pieces
    leaves-own : (p : Part) → RanOver settings changes texts text p → StandAt p.old p.new (texts_of_pieces (length texts) (own_pieces p.segments) (own_cuts p.segments))
    unfolding x ts
    leaves-own p ran_over =
        let by : LeavesOver p.segments s cs texts text p.old p.new (Ok tt) =
        subst (λ (m : Meaning (List TimedChange)). IsRunOverAmong p.segments (Ok s) m texts text p.old p.new (Ok tt)) changes_are
        (subst (λ (m : Meaning Rules). IsRunOverAmong p.segments m (changes_in changes) texts text p.old p.new (Ok tt)) settings_are ran_over.ran) in
        let same : by.0 ≡ texts_of_pieces (length texts) (own_pieces p.segments) (own_cuts p.segments) = same_Ok _ _ (sym by.1 ∙ part-of_run p.segments s x timeline o is) in
        subst (StandAt p.old p.new) same by.2

    -- and its outputs hold their texts
    held-own : (p : Part) → RanOver settings changes texts text p → HoldTexts (length texts) (own_pieces p.segments) (own_cuts p.segments) p.new
    unfolding x ts
    held-own p ran_over = texts-held (length texts) (own_pieces p.segments) (own_cuts p.segments) p.old p.new ran_over.empty (leaves-own p ran_over)

    -- they are read from these
    reads-own : AreReadable (length texts) s cs timeline → (p : Part) → RanOver settings changes texts text p → ReadOver p
        → HoldsAll (length texts) (own_pieces p.segments) (map cut_line (own_cuts p.segments)) p.reader p.ports p.underlay
    unfolding x ts
    reads-own readable p ran_over read = part-holds p (length texts) ts timeline.cuts (held-own p ran_over) read readable.texts readable.few

    -- and a part that is opened holds them
    holds-own : AreReadable (length texts) s cs timeline → (p : Part) → RanOver settings changes texts text p → OpenedOver p → HoldsOwn (length texts) own_pieces own_cuts p
    unfolding x ts
    holds-own readable p ran_over opened =
        opened.part.opened (length texts) (own_pieces p.segments) (map cut_line (own_cuts p.segments)) (reads-own readable p ran_over opened.read)

    are-parts : (parts : List Part) → PartAll (segments_of parts) → AllByRecursion (RanOver settings changes texts text) parts → AllByRecursion OpenedOver parts → AreReadable (length texts) s cs timeline
        → AreParts (length texts) (map own_pieces (segments_of parts)) (map own_cuts (segments_of parts)) (opened_parts parts)
    unfolding x ts
    are-parts parts parted all opened readable = record {
      hold = all-hold (length texts) own_pieces own_cuts parts
          (all-two (RanOver settings changes texts text) OpenedOver (HoldsOwn (length texts) own_pieces own_cuts) parts (holds-own readable) all opened);
      rise = all-rise own_pieces (λ segments. part-rises segments (settings_told s) (changes_of x) timeline) (segments_of parts);
      apart = merged-rises (segments_of parts) (settings_told s) (changes_of x) timeline parted (vids-told s (texts_meet settings s settings_are)) (text-names changes cs changes_are);
    }

    -- none of their numbers is missing
    numbered-own : (parts : List Part) → PartAll (segments_of parts) → AreNumbered (merged (map own_pieces (segments_of parts)))
    unfolding x ts
    numbered-own parts parted = (
      length timeline.events,
      ap numbers (pieces-merged (segments_of parts) (settings_told s) (changes_of x) timeline parted (vids-told s (texts_meet settings s settings_are)) (text-names changes cs changes_are))
          ∙ numbers-rise (settings_told s) (changes_of x) timeline,
    )

    merged-own : (parts : List Part) → PartAll (segments_of parts) → texts_of_pieces (length texts) (merged (map own_pieces (segments_of parts))) (side_by_side (map own_cuts (segments_of parts))) ≡ o
    unfolding x ts
    merged-own parts parted = run-merged (segments_of parts) s x timeline o is parted (texts_meet settings s settings_are) (text-names changes cs changes_are)

-- ---- the merge

module _ (settings changes : List ℕ) (texts : List (Vec ℕ Global)) (text : List ℕ) (old : List Drain) (old_underlay : Drain) (written : Option (List ℕ)) (new : List Drain) (new_underlay : Drain) (now : Option (List ℕ)) (result : Result (Unit {0}) MergeFault) where
  abbrev Answered : Type 0
  Answered = (o : Outputs) × (run (settings_in settings) (changes_in changes) texts text ≡ Ok o) × UnlessDevice result (Adds o old old_underlay written new new_underlay now)

  -- what the merge makes of whatever pieces the parts hold
  abbrev Puts : List OpenPart → Type 0
  Puts opened = (pieces : List (List Piece)) (cuts : List (List Cut)) → AreParts (length old) pieces cuts opened
      → UnlessMissing result (merged pieces) (Adds (texts_of_pieces (length old) (merged pieces) (side_by_side cuts)) old old_underlay written new new_underlay now)

  merged-run : (parts : List Part) (s : Rules) (cs : List TimedChange) → settings_in settings ≡ Ok s → changes_in changes ≡ Ok cs → Whole s (record { changes = cs; ports = texts; underlay = text })
      → PartAll (segments_of parts) → AllByRecursion (RanOver settings changes texts text) parts → AllByRecursion OpenedOver parts → ReadsBack settings changes texts text → length old ≡ length texts
      → Puts (opened_parts parts) → Answered
  unfolding x
  merged-run parts s cs settings_are changes_are w parted all opened reads many merges =
      let counted = port-count s cs (length texts) (told (map (λ (c : TimedChange). c.at) cs) texts text) w.o w.is.outputs in
      let readable = reads s cs w.timeline settings_are changes_are w.is.read counted in
      let held = are-parts settings changes texts text s cs settings_are changes_are w.timeline w.o w.is parts parted all opened readable in
      let its_pieces = own_pieces settings changes texts text s cs settings_are changes_are w.timeline w.o w.is in
      let its_cuts = own_cuts settings changes texts text s cs settings_are changes_are w.timeline w.o w.is in
      let numbered = numbered-own settings changes texts text s cs settings_are changes_are w.timeline w.o w.is parts parted in
      let adds = unless_device (merged (map its_pieces (segments_of parts)))
      (Adds (texts_of_pieces (length old) (merged (map its_pieces (segments_of parts))) (side_by_side (map its_cuts (segments_of parts)))) old old_underlay written new new_underlay now)
      result numbered (merges (map its_pieces (segments_of parts)) (map its_cuts (segments_of parts)) (subst (λ (n : ℕ). AreParts n (map its_pieces (segments_of parts)) (map its_cuts (segments_of parts)) (opened_parts parts)) (sym many) held)) in
      let same = ap (λ (n : ℕ). texts_of_pieces n (merged (map its_pieces (segments_of parts))) (side_by_side (map its_cuts (segments_of parts)))) many
      ∙ merged-own settings changes texts text s cs settings_are changes_are w.timeline w.o w.is parts parted in (
        w.o,
        (λ i. run (settings_are i) (changes_are i) texts text) ∙ w.is.outputs,
        subst (λ (texts : Outputs). UnlessDevice result (Adds texts old old_underlay written new new_underlay now)) same adds,
      )

  pub files-merged : (parts : List Part) → PartAll (segments_of parts) → AllByRecursion (RanOver settings changes texts text) parts → AllByRecursion OpenedOver parts → ReadsBack settings changes texts text → length old ≡ length texts
      → Puts (opened_parts parts) → Answered
  files-merged [] parted all opened reads many merges = let none : 0 ≡ 1 = parted None tt in absurd (omega (arith, none))
  files-merged (p ∷ ps) parted all opened reads many merges =
      let first = ran p.segments (settings_in settings) (changes_in changes) texts text p.old p.new all.0.ran in
      let w = whole p.segments first.s (record { changes = first.cs; ports = texts; underlay = text }) first.leaves.0 first.leaves.1 in
      merged-run (p ∷ ps) first.s first.cs first.settings_are first.changes_are w parted all opened reads many merges

-- ---- one part

module _ (settings changes : List ℕ) (texts : List (Vec ℕ Global)) (text : List ℕ) (p : Part) (ran_over : RanOver settings changes texts text p) where
  first : Ran p.segments (settings_in settings) (changes_in changes) texts text p.old p.new
  first = ran p.segments (settings_in settings) (changes_in changes) texts text p.old p.new ran_over.ran

  its_whole : Whole first.s (record { changes = first.cs; ports = texts; underlay = text })
  its_whole = whole p.segments first.s (record { changes = first.cs; ports = texts; underlay = text }) first.leaves.0 first.leaves.1

  pub holds-captures : HoldCaptures p.new
  unfolding x
  holds-captures =
      let held = held-own settings changes texts text first.s first.cs first.settings_are first.changes_are its_whole.timeline its_whole.o its_whole.is p ran_over in
      record {
        ports = λ d k lt. (_, held.ports d k (subst (λ (n : ℕ). k < n) held.many lt));
        underlay = (_, held.underlay);
      }

  pub opens-part : ReadOver p → ReadsBack settings changes texts text → (number : ℕ) (result : Result OpenPart (MergeFault × Reader)) → OpensWith number p result → UnlessLines number p.reader result
  unfolding x
  opens-part read reads number result opens =
      let counted = port-count first.s first.cs (length texts) (told (map (λ (c : TimedChange). c.at) first.cs) texts text) its_whole.o its_whole.is.outputs in
      let readable = reads first.s first.cs its_whole.timeline first.settings_are first.changes_are its_whole.is.read counted in
      unless_lines number p.reader p.ports p.underlay _ result (opens.opened (length texts) _ _ (reads-own settings changes texts text first.s first.cs first.settings_are first.changes_are its_whole.timeline its_whole.o its_whole.is readable p ran_over read)) opens.reads
