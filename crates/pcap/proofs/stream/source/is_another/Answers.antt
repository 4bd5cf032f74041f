use Rattle.std.proofs.Common.{◌≡◌, refl, sym, ap, ℕ, ◌-◌, ◌≤◌, Bool, true, false, List, length, arith, Ok}
use Rattle.std.specs.Prelude.{nat_le}
use Rattle.std.proofs.lemmas.Bool.{leb-true, leb-false}
use Rattle.pcap.specs.Next.{next_of, readable}
use Rattle.pcap.specs.RecordText.{record_header_in}
use Rattle.pcap.specs.declared.text.record.RecordHeader.{RecordHeader}
use Rattle.pcap.specs.declared.text.style.Style.{Style}
use Rattle.pcap.proofs.Nexts.{next_of-another, next_of-cut, next_of-faulty, next_of-short}
use Rattle.pcap.specs.Source.{is_another}
use Rattle.pcap.proofs.stream.source.is_another.Goals as goal

pub returns-then-text-lt-RECORD_HEADER_LENGTH : goal.returns-then-text-lt-RECORD_HEADER_LENGTH
returns-then-text-lt-RECORD_HEADER_LENGTH c = sym (ap is_another (next_of-short c.args.style c.args.text.now (omega arith)))

-- behind a header without a fault it is the text's length that decides
by_length : (style : Style) (text : List ℕ) (header : RecordHeader) (b : Bool) → 16 ≤ length text → readable style (record_header_in style.order text) ≡ Ok header
    → nat_le header.captured (length text - 16) ≡ b → b ≡ is_another (next_of style text)
by_length style text header true long readable_is fits = sym (ap is_another (next_of-another style text header long readable_is (omega (arith, leb-true _ _ fits))))
by_length style text header false long readable_is fits = sym (ap is_another (next_of-cut style text header long readable_is (omega (arith, leb-false _ _ fits))))

pub returns-in-Ok : goal.returns-in-Ok
returns-in-Ok c = by_length c.args.style c.args.text.now c.in-Ok.header _ (omega arith) (sym c.in-Ok.ensures.value) refl

pub returns-in-Err : goal.returns-in-Err
returns-in-Err c = sym (ap is_another (next_of-faulty c.args.style c.args.text.now c.in-Err.field-0 (omega arith) (sym c.in-Err.ensures.value)))
