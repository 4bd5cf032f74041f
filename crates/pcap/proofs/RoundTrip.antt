-- What is written is read.
use Rattle.std.proofs.Common.{◌≡◌, refl, ◌/◌, ◌%◌, List, [], ◌∷◌, ◌++◌, length, arith, Ok}
use Rattle.std.specs.List.{AllByRecursion, flat_map}
use Rattle.std.proofs.lemmas.List.Concat.{flat_map-cons}
use Rattle.pcap.proofs.Opened.{opened-is}
use Rattle.pcap.specs.Capture.{IsCapture, opened}
use Rattle.pcap.specs.Record.{IsWithinLimits, Record, longest}
use Rattle.pcap.specs.Reading.{AreRecordTexts, whole}
use Rattle.pcap.specs.RecordText.{IsRecordText}
use Rattle.pcap.specs.Style.{octets_of}
use Rattle.pcap.specs.Written.{written, written_record, written_style}
use Rattle.pcap.specs.declared.text.style.Order.TheVariants.{Little}

pub record_text : (r : Record) → IsWithinLimits r → IsRecordText written_style r (written_record r)
unfolding written_record
record_text r fits = record {
  header = record { seconds = r.moment / 1000000000; fraction = r.moment % 1000000000; captured = length r.octets; original = r.original };
  seconds_fit = omega (arith, fits.moment);
  fraction_fits = omega arith;
  captured_fits = fits.length;
  original_fits = fits.original;
  moment = omega arith;
  captured = refl;
  original = refl;
  whole = refl;
}

record_texts : (rs : List Record) → AllByRecursion IsWithinLimits rs → AreRecordTexts written_style rs [] (flat_map written_record rs)
record_texts [] fits = refl
record_texts (r ∷ rs) fits = (written_record r, flat_map written_record rs, record_text r fits.0, record_texts rs fits.1, flat_map-cons written_record r rs)

is_capture : (rs : List Record) → AllByRecursion IsWithinLimits rs → IsCapture (written rs) (whole rs)
is_capture rs fits = record {
  style = written_style;
  ignored = octets_of Little 4 0 ++ (octets_of Little 4 0 ++ octets_of Little 4 longest);
  behind = flat_map written_record rs;
  ignored_length = refl;
  header = refl;
  records = record { rest = []; records = record_texts rs fits; end = refl };
}

pub opened-written : (rs : List Record) → AllByRecursion IsWithinLimits rs → opened (written rs) ≡ Ok (whole rs)
opened-written rs fits = opened-is (written rs) (whole rs) (is_capture rs fits)
