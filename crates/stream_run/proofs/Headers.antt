-- What an opening tells.
use Rattle.std.proofs.Common.{◌≡◌, ◌∙◌, refl, sym, ap, subst, ℕ, List, drop, Some, IfSome, Result, Ok, Err}
use Rattle.pcap.specs.Capture.{opened_by}
use Rattle.pcap.specs.Header.{style_of}
use Rattle.pcap.specs.declared.text.header.CaptureFault.{CaptureFault}
use Rattle.pcap.specs.declared.text.header.CaptureFault.TheVariants as capture
use Rattle.pcap.specs.declared.text.style.Style.{Style}
use Rattle.pcap.specs.Fault.{capture_fault}
use Rattle.pcap.specs.Source.{Standing, Stream, IsOpened, ReadsHeader, after_header, answer}
use Rattle.pcap.specs.declared.stream.fault.SourceFault.{SourceFault}
use Rattle.pcap.specs.declared.stream.fault.SourceFault.TheVariants as source
use Rattle.pcap.proofs.Runs.{begins}
use Rattle.timeline.specs.declared.source.Tap.{Tap}
use Rattle.stream_run.specs.Begun.{RefusesHeader, ReadsOn, TellsHeader}
use Rattle.stream_run.specs.Fault.{fault_of}
use Rattle.stream_run.specs.Fetched.{IsOpen, ReadsOne}

header_open : (s : Standing) (header : Result Style CaptureFault) → s ≡ after_header header → Ok tt ≡ answer s → IsOpen s
header_open s (Ok style) is told = rw is tt
header_open s (Err fault) is told = let failed : Ok tt ≡ answer (after_header (Err fault)) = subst (λ s. Ok tt ≡ answer s) is told in absurd cc

pub opened_open : (old new : Stream) → IsOpened {T = Unit {0}} old new (Ok tt) → Ok tt ≡ answer new.standing → IsOpen new.standing
opened_open old new opened told = header_open new.standing opened.header opened.standing_is told

pub opened_fault : (old new : Stream) (tap : Tap) (n : ℕ) (fault : SourceFault) → IsOpened {T = Unit {0}} old new (Err fault) → ReadsOne {T = Unit {0}} tap old new (Err (fault_of tap n fault))
opened_fault old new tap n source.Read opened = (refl, opened)
opened_fault old new tap n source.NotPcap opened = opened.quiet
opened_fault old new tap n source.BadLink opened = opened.quiet
opened_fault old new tap n source.TooLarge opened = opened.quiet
opened_fault old new tap n source.BadFraction opened = opened.quiet

-- ---- by the octets

pub opened_reads : (old new : Stream) → IsOpened {T = Unit {0}} old new (Ok tt) → Ok tt ≡ answer new.standing → ReadsOn old new
opened_reads old new opened told octets is = begins old new octets is opened (sym told)

-- the header that was read is that of the octets
header_is : (old new : Stream) (read : ReadsHeader old.supply new.supply new.standing) (octets : List ℕ) → old.supply.rest ≡ Some octets → read.header ≡ style_of octets
header_is old new read octets is = (subst (λ r. IfSome r (λ text. (read.header ≡ style_of text) × (new.supply.rest ≡ Some (drop 24 text)))) is read.octets).0

refused : (old new : Stream) (read : ReadsHeader old.supply new.supply new.standing) (fault : CaptureFault) → read.header ≡ Err fault → RefusesHeader old fault
refused old new read fault is octets told = ap (λ h. opened_by h octets) (sym (header_is old new read octets told) ∙ is)

-- a fault that an opening answers is that of the header
record Why (header : Result Style CaptureFault) (fault : SourceFault) : Type 0 where
  pub own : CaptureFault
  pub header_is : header ≡ Err own
  pub fault_is : fault ≡ capture_fault own

why : (s : Standing) (header : Result Style CaptureFault) (fault : SourceFault) → s ≡ after_header header → Err fault ≡ answer s → Why header fault
why s (Ok style) fault is told = let failed : Err fault ≡ answer (after_header (Ok style)) = subst (λ s. Err fault ≡ answer s) is told in absurd cc
why s (Err own) fault is told =
    let failed : Err fault ≡ answer (after_header (Err own)) = subst (λ s. Err fault ≡ answer s) is told in
    record { own = own; header_is = refl; fault_is = cc }

tells : (old new : Stream) (tap : Tap) (n : ℕ) (read : ReadsHeader old.supply new.supply new.standing) (own : CaptureFault) → read.header ≡ Err own
    → TellsHeader tap old new (Err (fault_of tap n (capture_fault own)))
tells old new tap n read capture.NotPcap is = (refl, refused old new read capture.NotPcap is)
tells old new tap n read capture.BadLink is = (refl, refused old new read capture.BadLink is)

told_why : (old new : Stream) (tap : Tap) (n : ℕ) (fault : SourceFault) → ReadsHeader old.supply new.supply new.standing → Err fault ≡ answer new.standing
    → TellsHeader tap old new (Err (fault_of tap n fault))
told_why old new tap n fault read told =
    let w = why new.standing read.header fault read.standing_is told in
    subst (λ f. TellsHeader tap old new (Err (fault_of tap n f))) (sym w.fault_is) (tells old new tap n read w.own w.header_is)

pub header_told : (old new : Stream) (tap : Tap) (n : ℕ) (fault : SourceFault) → IsOpened {T = Unit {0}} old new (Err fault) → Err fault ≡ answer new.standing
    → TellsHeader tap old new (Err (fault_of tap n fault))
header_told old new tap n source.Read opened told = refl
header_told old new tap n source.NotPcap opened told = told_why old new tap n source.NotPcap opened told
header_told old new tap n source.BadLink opened told = told_why old new tap n source.BadLink opened told
header_told old new tap n source.TooLarge opened told = told_why old new tap n source.TooLarge opened told
header_told old new tap n source.BadFraction opened told = told_why old new tap n source.BadFraction opened told
