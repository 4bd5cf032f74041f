-- What a fetch tells.
use Rattle.std.proofs.Common.{◌≡◌, ◌≢◌, ◌∙◌, refl, sym, ap, subst, ℕ, ◌+◌, ◌≤◌, max, List, length, arith, Option, Some, None, option_map, IfSome, Result, Ok, Err}
use Rattle.pcap.specs.Capture.{opened}
use Rattle.pcap.specs.Next.{End, Whole, Cut, Faulty}
use Rattle.pcap.specs.Record.{IsWithinLimits, Record, last_moment}
use Rattle.pcap.specs.declared.text.record.RecordFault.{RecordFault}
use Rattle.pcap.specs.declared.text.record.RecordFault.TheVariants.{BadFraction, TooLarge}
use Rattle.pcap.specs.Fault.{record_fault}
use Rattle.pcap.specs.InTurn.{IsReading}
use Rattle.pcap.specs.Source.{Standing, Stream, New, Open, Ended, Failed, IsFilled, IsFilledFrom, MatchRead, ReadsNext, after_end, answer, lent}
use Rattle.pcap.specs.Supply.{GivesUp}
use Rattle.pcap.specs.declared.stream.fault.SourceFault.{SourceFault}
use Rattle.pcap.specs.declared.stream.fault.SourceFault.TheVariants as source
use Rattle.pcap.proofs.Runs.{ends, one_more}
use Rattle.pcap.proofs.Refusals.{faulty_end, lends_none}
use Rattle.timeline.specs.Events.{greatest}
use Rattle.timeline.specs.declared.source.Tap.{Tap}
use Rattle.stream_run.specs.Fault.{fault_of}
use Rattle.stream_run.specs.Fetched.{IsFetch, IsFetched, IsMoment, IsOpen, ReadsOne}
use Rattle.stream_run.specs.Read.{StandsBehind, failures_of}
use Rattle.stream_run.specs.declared.turn.Turn.{Turn}

-- an open source read what comes next, or gave up
read_on : (old new : Stream) (result : Result (Unit {0}) SourceFault) (s : Standing) → IsOpen s → IsFilledFrom s old new result
    → MatchRead result (GivesUp old.supply new.supply) (failures_of new ≡ failures_of old)
read_on old new result (Open style last) is filled = by result filled
  where
    by : (result : Result (Unit {0}) SourceFault) → MatchRead result (GivesUp old.supply new.supply) (ReadsNext style old.supply new.supply new.standing)
        → MatchRead result (GivesUp old.supply new.supply) (failures_of new ≡ failures_of old)
    by (Ok x) h = h.quiet
    by (Err source.Read) h = h
    by (Err source.NotPcap) h = h.quiet
    by (Err source.BadLink) h = h.quiet
    by (Err source.TooLarge) h = h.quiet
    by (Err source.BadFraction) h = h.quiet
read_on old new result New is filled = absurd is
read_on old new result (Ended is_cut) is filled = absurd is
read_on old new result (Failed fault) is filled = absurd is

-- ---- a fault

tells_fault : (octets : List ℕ) (rs : List Record) (tap : Tap) (new : Stream) (n : ℕ) (own : RecordFault) → opened octets ≡ Ok (record { records = rs; end = Faulty own }) → n ≡ length rs + 1
    → IsFetched octets rs tap new (Err (fault_of tap n (record_fault own)))
tells_fault octets rs tap new n TooLarge whole is = (refl, record { whole = rs; reading = whole; number = is }, is)
tells_fault octets rs tap new n BadFraction whole is = (refl, record { whole = rs; reading = whole; number = is }, is)

fault_told : (octets : List ℕ) (rs : List Record) (tap : Tap) (old new : Stream) (n : ℕ) (fault : SourceFault) → fault ≢ source.Read → IsReading octets rs old → IsFilled {T = Unit {0}} old new (Err fault)
    → Err fault ≡ answer new.standing → n ≡ length rs + 1 → IsFetched octets rs tap new (Err (fault_of tap n fault))
fault_told octets rs tap old new n fault other reading filled told is =
    let whole = ends octets rs old new (Err fault) reading (record { filled = filled; answered = told; lends_none = lends_none new.standing fault told; no_failure = λ e. other (by_err e) }) in
    let end = faulty_end whole.end fault (told ∙ ap answer whole.stands) in
    subst (λ f. IsFetched octets rs tap new (Err (fault_of tap n f))) (sym end.fault_is)
    (tells_fault octets rs tap new n end.own (whole.records ∙ ap (λ e. Ok (record { records = rs; end = e })) end.end_is) is)
  where
    by_err : ◌≡◌ {A = Result (Unit {0}) SourceFault} (Err fault) (Err source.Read) → fault ≡ source.Read
    by_err e = cc

-- one that is none of a read
fetch_faulty : (old new : Stream) (tap : Tap) (done latest : ℕ) (fault : SourceFault) → fault ≢ source.Read
    → ReadsOne {T = Turn} tap old new (Err (fault_of tap (done + 1) fault)) → IsFilled {T = Unit {0}} old new (Err fault)
    → Err fault ≡ answer new.standing → IsFetch old new tap done latest (Err (fault_of tap (done + 1) fault))
fetch_faulty old new tap done latest fault other reads filled told = record {
  count = tt;
  next = tt;
  moment = λ le. tt;
  reads = reads;
  told = λ octets rs reading is later. fault_told octets rs tap old new (done + 1) fault other reading filled told (omega arith);
}

pub fetch_failed : (old new : Stream) (tap : Tap) (done latest : ℕ) (fault : SourceFault) → IsOpen old.standing → IsFilled {T = Unit {0}} old new (Err fault) → Err fault ≡ answer new.standing
    → IsFetch old new tap done latest (Err (fault_of tap (done + 1) fault))
fetch_failed old new tap done latest source.Read ready filled told =
    record { count = tt; next = tt; moment = λ le. tt; reads = (refl, read_on old new (Err source.Read) old.standing ready filled); told = λ octets rs reading is later. refl }
fetch_failed old new tap done latest source.NotPcap ready filled told =
    fetch_faulty old new tap done latest source.NotPcap (λ e. absurd cc) (read_on old new (Err source.NotPcap) old.standing ready filled) filled told
fetch_failed old new tap done latest source.BadLink ready filled told =
    fetch_faulty old new tap done latest source.BadLink (λ e. absurd cc) (read_on old new (Err source.BadLink) old.standing ready filled) filled told
fetch_failed old new tap done latest source.TooLarge ready filled told =
    fetch_faulty old new tap done latest source.TooLarge (λ e. absurd cc) (read_on old new (Err source.TooLarge) old.standing ready filled) filled told
fetch_failed old new tap done latest source.BadFraction ready filled told =
    fetch_faulty old new tap done latest source.BadFraction (λ e. absurd cc) (read_on old new (Err source.BadFraction) old.standing ready filled) filled told

-- ---- a record, or the end

no_fault_end : (end : End) → Ok tt ≡ answer (after_end end) → (fault : RecordFault) → end ≢ Faulty fault
no_fault_end Whole is fault e = absurd cc
no_fault_end Cut is fault e = absurd cc
no_fault_end (Faulty own) is fault e = absurd cc

behind : (octets : List ℕ) (rs : List Record) (old new : Stream) (latest : ℕ) (r : Option Record) → lent new.standing ≡ r → IsReading octets rs old → IsFilled {T = Unit {0}} old new (Ok tt)
    → Ok tt ≡ answer new.standing → latest ≡ greatest rs → StandsBehind octets rs (option_map (λ (r : Record). max r.moment latest) r) new
behind octets rs old new latest (Some r) lends reading filled told later =
    (r, ap (max r.moment) later, record { reading = one_more octets rs r old new reading filled lends; lends = lends })
behind octets rs old new latest None lends reading filled told later =
    let whole = ends octets rs old new (Ok tt) reading (record { filled = filled; answered = told; lends_none = lends; no_failure = λ e. absurd cc }) in
    record { end = whole.end; reading = whole.records; stands = whole.stands; no_fault = no_fault_end whole.end (told ∙ ap answer whole.stands) }

limited : (latest : ℕ) (r : Option Record) → IfSome r IsWithinLimits → latest ≤ last_moment → IsMoment (option_map (λ (r : Record). max r.moment latest) r)
limited latest None h le = tt
limited latest (Some r) h le = let own = h.moment in omega arith

pub fetch_done : (old new : Stream) (tap : Tap) (done latest : ℕ) (next : Option ℕ) → IsOpen old.standing → IsFilled {T = Unit {0}} old new (Ok tt) → Ok tt ≡ answer new.standing
    → IfSome (lent new.standing) IsWithinLimits → next ≡ option_map (λ (r : Record). max r.moment latest) (lent new.standing)
    → IsFetch old new tap done latest (Ok (record { done = done; next = next }))
fetch_done old new tap done latest next ready filled told limits is = record {
  count = refl;
  next = is;
  moment = λ le. subst IsMoment (sym is) (limited latest (lent new.standing) limits le);
  reads = read_on old new (Ok tt) old.standing ready filled;
  told = λ octets rs reading count later. subst (λ n. StandsBehind octets rs n new) (sym is) (behind octets rs old new latest (lent new.standing) refl reading filled told later);
}
