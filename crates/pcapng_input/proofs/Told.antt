-- The classic capture is read as the packets.
use Rattle.std.proofs.Common.{◌≡◌, ◌∙◌, refl, sym, ap, ℕ, List, [], ◌∷◌, ◌++◌, append_assoc, Result, Ok}
use Rattle.std.specs.List.{AllByRecursion, flat_map}
use Rattle.std.proofs.lemmas.List.Concat.{flat_map-cons}
use Rattle.wire.specs.Octets.{IsText}
use Rattle.pcap.proofs.Opened.{opened-is}
use Rattle.pcap.proofs.RoundTrip.{opened-written, record_text}
use Rattle.pcap.specs.Capture.{IsCapture, opened}
use Rattle.pcap.specs.Next.{Cut}
use Rattle.pcap.specs.Reading.{AreRecordTexts}
use Rattle.pcap.specs.Record.{IsWithinLimits, Record, longest}
use Rattle.pcap.specs.Style.{octets_of}
use Rattle.pcap.specs.Written.{written, written_record, written_style}
use Rattle.pcap.specs.declared.text.style.Order.TheVariants.{Little}
use Rattle.pcapng_input.proofs.Limits.{packets-limits}
use Rattle.pcapng_input.specs.Classic.{capture_by, classic_end, classic_text}
use Rattle.pcapng_input.specs.Reading.{EndsCut, EndsFaulty, EndsWhole, TextEnd, packets_of}
use Rattle.pcapng_input.specs.declared.fault.PcapngFault.{PcapngFault}
use Rattle.pcapng_input.specs.declared.interface.Selection.{Selection}

-- records and one octet of a further one
cut_texts : (rs : List Record) → AllByRecursion IsWithinLimits rs → AreRecordTexts written_style rs (0 ∷ []) (flat_map written_record rs ++ 0 ∷ [])
cut_texts [] fits = refl
cut_texts (r ∷ rs) fits = (
  written_record r,
  flat_map written_record rs ++ 0 ∷ [],
  record_text r fits.0,
  cut_texts rs fits.1,
  ap (λ t. t ++ 0 ∷ []) (flat_map-cons written_record r rs) ∙ append_assoc (written_record r) (flat_map written_record rs) (0 ∷ []),
)

cut_capture : (rs : List Record) → AllByRecursion IsWithinLimits rs → IsCapture (written rs ++ 0 ∷ []) (record { records = rs; end = Cut })
cut_capture rs fits = record {
  style = written_style;
  ignored = octets_of Little 4 0 ++ (octets_of Little 4 0 ++ octets_of Little 4 longest);
  behind = flat_map written_record rs ++ 0 ∷ [];
  ignored_length = refl;
  header = refl;
  records = record { rest = 0 ∷ []; records = cut_texts rs fits; end = refl };
}

same : (a b : List ℕ) → ◌≡◌ {A = Result (List ℕ) PcapngFault} (Ok a) (Ok b) → a ≡ b
same a b e = cc

tells_by : (rs : List Record) (end : TextEnd) (classic : List ℕ) → AllByRecursion IsWithinLimits rs → capture_by (written rs) end ≡ Ok classic
    → opened classic ≡ Ok (record { records = rs; end = classic_end end })
tells_by rs EndsWhole classic fits is = ap opened (sym (same _ _ is)) ∙ opened-written rs fits
tells_by rs EndsCut classic fits is = ap opened (sym (same _ _ is)) ∙ opened-is (written rs ++ 0 ∷ []) (record { records = rs; end = Cut }) (cut_capture rs fits)
tells_by rs (EndsFaulty fault) classic fits is = absurd cc

pub tells_the_packets : (selection : Selection) (text classic : List ℕ) → IsText text → classic_text selection text ≡ Ok classic
    → opened classic ≡ Ok (record { records = (packets_of selection text).records; end = classic_end (packets_of selection text).end })
unfolding classic_text
tells_the_packets selection text classic h is =
    tells_by (packets_of selection text).records (packets_of selection text).end classic (packets-limits selection text h) is
