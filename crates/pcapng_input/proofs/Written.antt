-- The octets of a capture, as they are put one record after another.
use Rattle.std.proofs.Common.{◌≡◌, ◌∙◌, refl, sym, ap, subst, ℕ, ◌+◌, ◌*◌, ◌≤◌, arith, List, [], ◌∷◌, ◌++◌, length, append_assoc, append-nil, Option, None, Some, Result, Ok, Err, OnOk}
use Rattle.std.specs.Prelude.{if◌then◌else◌, is_ok}
use Rattle.std.specs.List.{flat_map}
use Rattle.std.proofs.lemmas.List.Concat.{flat_map-cons}
use Rattle.pcap.specs.Record.{Record}
use Rattle.pcap.specs.Written.{record_header_of, written, written_header, written_record}
use Rattle.pcap.specs.declared.text.style.Order.{Order}
use Rattle.pcapng_input.proofs.Readings.{packets-behind, packets-end, packets-faulty}
use Rattle.pcapng_input.specs.Block.{AllRead, AnotherBlock, Block, CutShort, NoBlock, Refused, next_block}
use Rattle.pcapng_input.specs.Classic.{IsErrorOf, capture_by, classic_text, found_text}
use Rattle.pcapng_input.specs.Context.{IsStepError}
use Rattle.pcapng_input.specs.Reading.{Context, EndsCut, EndsFaulty, EndsWhole, PacketReading, TextEnd, block_fault_at, ended, found_before, packets_in, packets_of, start, step_of}
use Rattle.pcapng_input.specs.declared.fault.BlockFault.{BlockFault}
use Rattle.pcapng_input.specs.declared.fault.PcapngError.{PcapngError}
use Rattle.pcapng_input.specs.declared.fault.PcapngError.TheVariants.{Faulty, OutOfMemory}
use Rattle.pcapng_input.specs.declared.fault.PcapngFault.{PcapngFault}
use Rattle.pcapng_input.specs.declared.interface.Selection.{Selection}

-- a header and the octets behind it are the record
pub put_whole : {E : Type 0} (r : Record) (out one two head octets : List ℕ) (moment captured original : ℕ) (result : Result (Unit {0}) E)
    → r ≡ record { moment = moment; original = original; octets = octets } → captured ≡ length octets → head ≡ record_header_of moment captured original
    → one ≡ out ++ head → two ≡ (if is_ok result then one ++ octets else one) → OnOk result (two ≡ out ++ written_record r)
unfolding written_record
put_whole r out one two head octets moment captured original (Ok x) is size header first second =
    let record_is : written_record r ≡ record_header_of moment (length octets) original ++ octets = ap written_record is in
    let head_is : head ≡ record_header_of moment (length octets) original = header ∙ ap (λ n. record_header_of moment n original) size in
    second ∙ ap (λ t. t ++ octets) first ∙ append_assoc out head octets ∙ ap (λ t. out ++ (t ++ octets)) head_is ∙ ap (λ t. out ++ t) (sym record_is)
put_whole r out one two head octets moment captured original (Err e) is size header first second = tt

-- what was put so far, and the packets that are left, are the capture
pub record IsSoFar (selection : Selection) (text out : List ℕ) (context : Context) (rest : List ℕ) : Type 0 where
  pub records : out ++ flat_map written_record (packets_in selection context rest).records ≡ written (packets_of selection text).records
  pub end : (packets_in selection context rest).end ≡ (packets_of selection text).end

before_more : (found : Option Record) (more : PacketReading) → found_text found ++ flat_map written_record more.records ≡ flat_map written_record (found_before found more).records
before_more None more = refl
before_more (Some r) more = sym (flat_map-cons written_record r more.records)

-- one more block
pub goes_on : (selection : Selection) (text out new_out : List ℕ) (context new : Context) (rest behind : List ℕ) (block : Block) (found : Option Record) (order : Option Order)
    → order ≡ context.order → AnotherBlock block behind ≡ next_block order rest → step_of selection context block ≡ Ok (record { context = new; found = found })
    → new_out ≡ out ++ found_text found → IsSoFar selection text out context rest → IsSoFar selection text new_out new behind
goes_on selection text out new_out context new rest behind block found order order_is next step put so_far =
    let here : packets_in selection context rest ≡ found_before found (packets_in selection new behind) =
    packets-behind selection context rest block behind (record { context = new; found = found }) (next ∙ ap (λ o. next_block o rest) order_is) step in
    let more = flat_map written_record (packets_in selection new behind).records in
    record {
      records = ap (λ t. t ++ more) put ∙ append_assoc out (found_text found) more ∙ ap (λ t. out ++ t) (before_more found (packets_in selection new behind))
          ∙ ap (λ (reading : PacketReading). out ++ flat_map written_record reading.records) (sym here) ∙ so_far.records;
      end = same_end found (packets_in selection new behind) ∙ ap (λ (reading : PacketReading). reading.end) (sym here) ∙ so_far.end;
    }
  where
    same_end : (found : Option Record) (more : PacketReading) → more.end ≡ (found_before found more).end
    same_end None more = refl
    same_end (Some r) more = refl

-- no more packets
stops : (selection : Selection) (text out : List ℕ) (context : Context) (rest : List ℕ) (end : TextEnd) → packets_in selection context rest ≡ ended context end
    → IsSoFar selection text out context rest → classic_text selection text ≡ capture_by out end
unfolding classic_text
stops selection text out context rest end here so_far =
    let records : written (packets_of selection text).records ≡ out =
    sym so_far.records ∙ ap (λ (reading : PacketReading). out ++ flat_map written_record reading.records) here ∙ append-nil out in
    let end_is : (packets_of selection text).end ≡ end = sym so_far.end ∙ ap (λ (reading : PacketReading). reading.end) here in
    ap (λ t. capture_by t (packets_of selection text).end) records ∙ ap (capture_by out) end_is

pub stops_whole : (selection : Selection) (text out : List ℕ) (context : Context) (rest : List ℕ) (order : Option Order) → order ≡ context.order
    → NoBlock AllRead ≡ next_block order rest → IsSoFar selection text out context rest → classic_text selection text ≡ Ok out
stops_whole selection text out context rest order order_is next so_far =
    stops selection text out context rest EndsWhole (packets-end selection context rest AllRead (next ∙ ap (λ o. next_block o rest) order_is)) so_far

pub stops_cut : (selection : Selection) (text out new_out : List ℕ) (context : Context) (rest : List ℕ) (order : Option Order) → order ≡ context.order
    → NoBlock CutShort ≡ next_block order rest → new_out ≡ out ++ 0 ∷ [] → IsSoFar selection text out context rest → classic_text selection text ≡ Ok new_out
stops_cut selection text out new_out context rest order order_is next put so_far =
    stops selection text out context rest EndsCut (packets-end selection context rest CutShort (next ∙ ap (λ o. next_block o rest) order_is)) so_far
    ∙ ap (λ t. Ok t) (sym put)

pub stops_refused : (selection : Selection) (text out : List ℕ) (context : Context) (rest : List ℕ) (order : Option Order) (fault : BlockFault) (told : PcapngFault)
    → order ≡ context.order → NoBlock (Refused fault) ≡ next_block order rest → told ≡ block_fault_at context fault → IsSoFar selection text out context rest
    → classic_text selection text ≡ Err told
stops_refused selection text out context rest order fault told order_is next is so_far =
    stops selection text out context rest (EndsFaulty (block_fault_at context fault)) (packets-end selection context rest (Refused fault) (next ∙ ap (λ o. next_block o rest) order_is)) so_far
    ∙ ap (λ f. Err f) (sym is)

pub stops_faulty : (selection : Selection) (text out : List ℕ) (context : Context) (rest behind : List ℕ) (block : Block) (order : Option Order) (error : PcapngError)
    → order ≡ context.order → AnotherBlock block behind ≡ next_block order rest → IsStepError (step_of selection context block) context error
    → IsSoFar selection text out context rest → IsErrorOf (classic_text selection text) error
stops_faulty selection text out context rest behind block order OutOfMemory order_is next is so_far = tt
stops_faulty selection text out context rest behind block order (Faulty fault) order_is next is so_far =
    stops selection text out context rest (EndsFaulty (block_fault_at context fault.fault))
    (packets-faulty selection context rest block behind fault.fault (next ∙ ap (λ o. next_block o rest) order_is) is.0) so_far
    ∙ ap (λ f. Err f) (sym is.1)

-- nothing but the header was put
pub starts : (selection : Selection) (text out none : List ℕ) (context : Context) → none ≡ [] → out ≡ none ++ written_header → context ≡ start
    → IsSoFar selection text out context text
starts selection text out none context empty put is = record {
  records = ap (λ t. t ++ flat_map written_record (packets_in selection context text).records) (put ∙ ap (λ t. t ++ written_header) empty)
      ∙ ap (λ c. written_header ++ flat_map written_record (packets_in selection c text).records) is;
  end = ap (λ c. (packets_in selection c text).end) is;
}

-- the place of the first block
pub starts_blocks : (context : Context) → context ≡ start → 12 * context.blocks ≤ context.offset
starts_blocks context is = subst (λ (c : Context). 12 * c.blocks ≤ c.offset) (sym is) (omega arith)

pub starts_offset : (context : Context) (text : List ℕ) → context ≡ start → context.offset + length text ≤ length text
starts_offset context text is = subst (λ (c : Context). c.offset + length text ≤ length text) (sym is) (omega arith)

-- and of the next one
pub more_blocks : (blocks offset new_blocks new_offset size : ℕ) → new_blocks ≡ blocks + 1 → new_offset ≡ offset + (12 + size) → 12 * blocks ≤ offset → 12 * new_blocks ≤ new_offset
more_blocks blocks offset new_blocks new_offset size p q h = omega arith

pub more_offset : (offset new_offset size rest behind text : ℕ) → new_offset ≡ offset + (12 + size) → 12 + size + behind ≤ rest → offset + rest ≤ text → new_offset + behind ≤ text
more_offset offset new_offset size rest behind text p q h = omega arith

-- a header and octets behind it are the record
pub record_whole : {E : Type 0} (r : Record) (ready head octets : List ℕ) (moment captured original : ℕ) (result : Result (Unit {0}) E)
    → r ≡ record { moment = moment; original = original; octets = octets } → captured ≡ length octets → head ≡ record_header_of moment captured original
    → OnOk result (ready ≡ head ++ octets) → OnOk result (ready ≡ written_record r)
unfolding written_record
record_whole r ready head octets moment captured original (Ok x) is size header put =
    put ∙ ap (λ t. t ++ octets) (header ∙ ap (λ n. record_header_of moment n original) size) ∙ sym (ap written_record is)
record_whole r ready head octets moment captured original (Err e) is size header put = tt
