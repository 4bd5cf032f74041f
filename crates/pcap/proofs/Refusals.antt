-- What a source stands at that answers with a fault.
use Rattle.std.proofs.Common.{◌≡◌, ◌∙◌, sym, ap, refl, ℕ, List, drop, Option, Some, None, IfSome, Result, Ok, Err}
use Rattle.pcap.specs.Header.{style_of}
use Rattle.pcap.specs.Next.{End, Whole, Cut, Faulty}
use Rattle.pcap.specs.declared.text.header.CaptureFault.{CaptureFault}
use Rattle.pcap.specs.declared.text.record.RecordFault.{RecordFault}
use Rattle.pcap.specs.declared.text.style.Style.{Style}
use Rattle.pcap.specs.Fault.{capture_fault, record_fault}
use Rattle.pcap.specs.Source.{Standing, New, Open, Ended, Failed, after_end, after_header, answer, lent}
use Rattle.pcap.specs.declared.stream.fault.SourceFault.{SourceFault}

pub no_answer : (fault : SourceFault) → ◌≡◌ {A = Result (Unit {0}) SourceFault} (Ok tt) (Err fault) → ⊥
no_answer fault e = cc

pub lends_none : (s : Standing) (fault : SourceFault) → Err fault ≡ answer s → lent s ≡ None
lends_none New fault is = absurd cc
lends_none (Open style last) fault is = absurd cc
lends_none (Ended is_cut) fault is = refl
lends_none (Failed other) fault is = refl

-- ---- the opening

-- a header that was refused
pub record IsRefused (fault : SourceFault) (header : Result Style CaptureFault) : Type 0 where
  pub own : CaptureFault
  pub header_is : header ≡ Err own
  pub fault_is : fault ≡ capture_fault own

pub is_refused : (fault : SourceFault) (standing : Standing) (header : Result Style CaptureFault) → standing ≡ after_header header → Err fault ≡ answer standing → IsRefused fault header
is_refused fault standing (Ok style) e told = absurd (no_answer fault (sym (told ∙ ap answer e)))
is_refused fault standing (Err own) e told = record { own = own; header_is = refl; fault_is = same (told ∙ ap answer e) }
  where
    same : ◌≡◌ {A = Result (Unit {0}) SourceFault} (Err fault) (Err (capture_fault own)) → fault ≡ capture_fault own
    same e = cc

-- a header that was read is that of the octets
pub told_style : (a b : Option (List ℕ)) (text : List ℕ) (header : Result Style CaptureFault) → a ≡ Some text
    → IfSome a (λ text. (header ≡ style_of text) × (b ≡ Some (drop 24 text))) → header ≡ style_of text
told_style None b text header is h = absurd cc
told_style (Some t) b text header is h = let same : t ≡ text = cc in h.0 ∙ ap style_of same

-- ---- a record

-- an end with a fault is that of a record
pub record Ends (end : End) (fault : SourceFault) : Type 0 where
  pub own : RecordFault
  pub end_is : end ≡ Faulty own
  pub fault_is : fault ≡ record_fault own

pub faulty_end : (end : End) (fault : SourceFault) → Err fault ≡ answer (after_end end) → Ends end fault
faulty_end Whole fault is = absurd cc
faulty_end Cut fault is = absurd cc
faulty_end (Faulty own) fault is = record { own = own; end_is = refl; fault_is = cc }
