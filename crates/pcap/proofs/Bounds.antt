-- Where a source gives up at the bound on its reads.
use Rattle.std.proofs.Common.{◌≡◌, ◌∙◌, sym, ap, subst, ℕ, zero, suc, ◌+◌, ◌<◌, ◌≤◌, List, ◌++◌, length, arith, length-append, Result, Ok, Err, inl, inr}
use Rattle.std.proofs.KnownBytes.{Consumes-trans}
use Rattle.std.proofs.lemmas.Bool.{ne_eqb}
use Rattle.std.specs.Io.KnownBytes.{Consumes}
use Rattle.std.specs.Prelude.{◌==◌, if◌then◌else◌, ⊤}
use Rattle.pcap.specs.Next.{Whole, Cut, Faulty, Next, Another, Ends, readable}
use Rattle.pcap.specs.RecordText.{record_header_in}
use Rattle.pcap.specs.declared.text.header.CaptureFault.{CaptureFault}
use Rattle.pcap.specs.declared.text.header.CaptureFault.TheVariants as capture
use Rattle.pcap.specs.declared.text.record.RecordFault.TheVariants as record_
use Rattle.pcap.specs.declared.text.record.RecordHeader.{RecordHeader}
use Rattle.pcap.specs.declared.text.style.Style.{Style}
use Rattle.pcap.proofs.Fronts.{record_header_in-front}
use Rattle.pcap.proofs.Nexts.{next_of-cut, next_of-short}
use Rattle.pcap.specs.Source.{IsShortRecord, IsUnfinished, MatchRead, Standing, after_header, after_next, answer}
use Rattle.pcap.specs.Supply.{StopsShort, Supply}
use Rattle.pcap.specs.declared.stream.fault.SourceFault.{SourceFault}

-- fewer octets than a record's header
unfinished_header : (style : Style) (taken : List ℕ) → length taken < 16 → IsShortRecord style taken
unfinished_header style taken short = subst IsUnfinished (sym (next_of-short style taken short)) (by_size (length taken))
  where
    by_size : (n : ℕ) → IsUnfinished (Ends (if n == 0 then Whole else Cut))
    by_size zero = tt
    by_size (suc k) = rw (ne_eqb (suc k) 0 (λ e. omega arith)) tt

pub short_header : (style : Style) (ahead : ℕ) (old new : Supply) → StopsShort (λ taken. length taken < 16) ahead old new → StopsShort (IsShortRecord style) ahead old new
short_header style ahead old new (inl failed) = inl failed
short_header style ahead old new (inr out) = inr (record {
  quiet = out.quiet;
  no_end = out.no_end;
  none_left = out.none_left;
  taken = out.taken;
  consumed = out.consumed;
  one_each = out.one_each;
  short = unfinished_header style out.taken out.short;
})

-- a whole header, and fewer octets than it claims
unfinished_octets : (style : Style) (octets taken : List ℕ) (header : RecordHeader) → length octets ≡ 16 → readable style (record_header_in style.order octets) ≡ Ok header
    → length taken < header.captured → IsShortRecord style (octets ++ taken)
unfinished_octets style octets taken header long is short =
    let size : length (octets ++ taken) ≡ 16 + length taken = omega (arith, length-append octets taken) in
    subst IsUnfinished (sym (next_of-cut style (octets ++ taken) header (omega arith) (ap (readable style) (record_header_in-front style.order octets taken long) ∙ is) (omega arith))) tt

pub short_octets : (style : Style) (before behind : ℕ) (old mid new : Supply) (octets : List ℕ) (header : RecordHeader) → length octets ≡ 16
    → Consumes old.rest mid.rest octets → old.reads + before ≤ mid.reads + behind + 16 → mid.failures ≡ old.failures → mid.ends ≡ old.ends → Ok header ≡ readable style (record_header_in style.order octets)
    → StopsShort (λ taken. length taken < header.captured) behind mid new → StopsShort (IsShortRecord style) before old new
short_octets style before behind old mid new octets header long taken few quiet no_end is (inl failed) = inl (omega (arith, failed, quiet))
short_octets style before behind old mid new octets header long taken few quiet no_end is (inr out) = inr (record {
  quiet = out.quiet ∙ quiet;
  no_end = out.no_end ∙ no_end;
  none_left = out.none_left;
  taken = octets ++ out.taken;
  consumed = Consumes-trans old.rest mid.rest new.rest octets out.taken taken out.consumed;
  one_each = omega (arith, out.one_each, few, long, length-append octets out.taken);
  short = unfinished_octets style octets out.taken header long (sym is) out.short;
})

-- ---- what was read isn't answered by `Read`

pub header_answered : (P : Type 0) (header : Result Style CaptureFault) (standing : Standing) (result : Result (Unit {0}) SourceFault) → standing ≡ after_header header
    → result ≡ answer standing → MatchRead result P ⊤
header_answered P header standing result is answered = subst (λ r. MatchRead r P ⊤) (sym (answered ∙ ap answer is)) (by_header header)
  where
    by_header : (header : Result Style CaptureFault) → MatchRead (answer (after_header header)) P ⊤
    by_header (Ok style) = tt
    by_header (Err capture.NotPcap) = tt
    by_header (Err capture.BadLink) = tt

pub next_answered : (P : Type 0) (style : Style) (next : Next) (standing : Standing) (result : Result (Unit {0}) SourceFault) → standing ≡ after_next style next
    → result ≡ answer standing → MatchRead result P ⊤
next_answered P style next standing result is answered = subst (λ r. MatchRead r P ⊤) (sym (answered ∙ ap answer is)) (by_next next)
  where
    by_next : (next : Next) → MatchRead (answer (after_next style next)) P ⊤
    by_next (Another r rest) = tt
    by_next (Ends Whole) = tt
    by_next (Ends Cut) = tt
    by_next (Ends (Faulty record_.TooLarge)) = tt
    by_next (Ends (Faulty record_.BadFraction)) = tt
