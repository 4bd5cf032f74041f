-- What is made of the octets held of a block.
use Rattle.std.proofs.Common.{◌≡◌, ◌∙◌, refl, sym, ap, subst, ℕ, ◌+◌, ◌%◌, ◌<◌, ◌≤◌, Bool, true, false, List, [], ◌∷◌, ◌++◌, length, drop, arith, append_assoc, append-nil, Option, None, Some, Result, Ok, Err, inl, inr}
use Rattle.std.specs.Prelude.{nat_lt, if◌then◌else◌}
use Rattle.std.specs.List.{flat_map}
use Rattle.std.proofs.lemmas.List.Concat.{flat_map-cons}
use Rattle.std.proofs.lemmas.Bool.{cases_lt, eqb-true, ltb-false, ltb-true, not-false, or_parts}
use Rattle.pcap.specs.Record.{Record}
use Rattle.pcap.specs.Style.{number_of}
use Rattle.pcap.specs.Written.{written_record}
use Rattle.pcap.specs.declared.text.style.Order.{Order}
use Rattle.pcapng_input.proofs.Grown.{Grows, IsCutBlock, cut_block, grown, no_block, none_behind, not_all_read, twelve, wanted-short, wanted-told}
use Rattle.pcapng_input.proofs.Passing.{passes}
use Rattle.pcapng_input.proofs.Readings.{packets-behind, packets-end, packets-faulty}
use Rattle.pcapng_input.specs.Adapted.{Told, told_behind, told_end, told_reading}
use Rattle.pcapng_input.specs.Block.{AllRead, AnotherBlock, Block, BlockEnd, CutShort, NoBlock, Refused, longest_block, next_block, order_at}
use Rattle.pcapng_input.specs.Classic.{found_text}
use Rattle.pcapng_input.specs.Context.{IsTakenAs}
use Rattle.pcapng_input.specs.Reading.{Context, EndsFaulty, PacketReading, Step, block_fault_at, end_at, ended, found_before, packets_in, step_of}
use Rattle.pcapng_input.specs.State.{IsRest, IsSettled, wanted_size, wanting_by}
use Rattle.pcapng_input.specs.declared.fault.BlockFault.{BlockFault}
use Rattle.pcapng_input.specs.declared.fault.PcapngFault.{PcapngFault}
use Rattle.pcapng_input.specs.declared.interface.Selection.{Selection}
use Rattle.pcapng_input.specs.declared.settle.Settled.{Settled}
use Rattle.pcapng_input.specs.declared.settle.Settled.TheVariants as settled

-- fewer than 12 octets
pub settles_short : (selection : Selection) (context : Context) (held ready : List ℕ) (is_more : Bool) → ready ≡ [] → length held < 12
    → IsSettled selection context context held ready is_more settled.Unfinished
settles_short selection context held ready is_more none short =
    (none, refl, record { part = omega (arith, short, wanted-short context.order held short); room = omega (arith, wanted-short context.order held short) })

-- either 12 octets are there or nothing is behind
abbrev pub Long : Bool → List ℕ → Type 0
Long is_more held = is_more ≡ true → 12 ≤ length held

-- a record that is found is told in front of those behind it
pub told_found : (found : Option Record) (reading : PacketReading) → told_reading (found_before found reading) ≡ told_behind (found_text found) (told_reading reading)
told_found None reading = refl
told_found (Some r) reading =
    let front = flat_map written_record reading.records in
    let first : flat_map written_record (r ∷ reading.records) ≡ written_record r ++ front = flat_map-cons written_record r reading.records in
    ap (λ t. told_behind t (told_end reading.left_out reading.end)) first
    ∙ ap (λ t. with_octets t (told_end reading.left_out reading.end)) (append_assoc (written_record r) front (told_end reading.left_out reading.end).octets)
  where
    with_octets : List ℕ → Told → Told
    with_octets t told = record { octets = t; fault = told.fault; left_out = told.left_out }

-- a block was found in what is held: it is found with the rest behind it
block_grown : (context : Context) (held rest behind : List ℕ) (block : Block) → AnotherBlock block behind ≡ next_block context.order held
    → length held ≤ wanted_size context.order held → AnotherBlock block rest ≡ next_block context.order (held ++ rest)
block_grown context held rest behind block next fits = elim (cases_lt (length held) 12) [
  | inl short ↦ absurd (short_none short next)
  | inr long ↦
      let empty = none_behind context.order held behind block next fits in
      let more : next_block context.order (held ++ rest) ≡ AnotherBlock block (behind ++ rest) =
      subst (λ n. Grows n (next_block context.order (held ++ rest)) rest) (sym next) (grown context.order held rest long) in
      sym (more ∙ ap (λ t. AnotherBlock block (t ++ rest)) empty)
]
  where
    short_none : length held < 12 → AnotherBlock block behind ≡ next_block context.order held → ⊥
    short_none short e = no_block context.order held block behind short e

-- a block was taken
pub settles_taken : (selection : Selection) (context new : Context) (held behind ready : List ℕ) (is_more : Bool) (block : Block) (found : Option Record) (order : Option Order)
    → order ≡ context.order → AnotherBlock block behind ≡ next_block order held → length held ≤ wanted_size context.order held
    → step_of selection context block ≡ Ok (record { context = new; found = found }) → ready ≡ found_text found
    → new.blocks ≡ context.blocks + 1 → new.offset ≡ context.offset + (12 + length block.body) → 12 + length block.body + length behind ≤ length held
    → IsSettled selection context new held ready is_more settled.Taken
settles_taken selection context new held behind ready is_more block found order order_is next fits step put blocks offset shorter = (
  blocks,
  omega (arith, offset),
  omega (arith, offset, shorter),
  λ rest.
      let here = block_grown context held rest behind block (next ∙ ap (λ o. next_block o held) order_is) fits in
      ap told_reading (packets-behind selection context (held ++ rest) block rest (record { context = new; found = found }) here step)
      ∙ told_found found (packets_in selection new rest)
      ∙ ap (λ t. told_behind t (told_reading (packets_in selection new rest))) (sym put),
)

-- the same by its step and the record that was put
pub settles_put : (selection : Selection) (context new : Context) (held behind ready : List ℕ) (is_more : Bool) (block : Block) (order : Option Order)
    → order ≡ context.order → AnotherBlock block behind ≡ next_block order held → length held ≤ wanted_size context.order held
    → IsTakenAs new ready (step_of selection context block)
    → new.blocks ≡ context.blocks + 1 → new.offset ≡ context.offset + (12 + length block.body) → 12 + length block.body + length behind ≤ length held
    → IsSettled selection context new held ready is_more settled.Taken
settles_put selection context new held behind ready is_more block order order_is next fits taken blocks offset shorter =
    by_step (step_of selection context block) refl taken
  where
    by_step : (step : Result Step BlockFault) → step_of selection context block ≡ step → IsTakenAs new ready step → IsSettled selection context new held ready is_more settled.Taken
    by_step (Err fault) e is = absurd is
    by_step (Ok step) e is =
        settles_taken selection context new held behind ready is_more block step.found order order_is next fits
        (e ∙ ap (λ (c : Context). Ok (record { context = c; found = step.found })) (sym is.0)) is.1 blocks offset shorter

-- a block has a fault
pub settles_faulty : (selection : Selection) (context new : Context) (held behind ready : List ℕ) (is_more : Bool) (block : Block) (fault : PcapngFault) (order : Option Order)
    → order ≡ context.order → AnotherBlock block behind ≡ next_block order held → length held ≤ wanted_size context.order held
    → (step_of selection context block ≡ Err fault.fault) × (fault ≡ block_fault_at context fault.fault) → ready ≡ [] → new ≡ context
    → IsSettled selection context new held ready is_more (settled.Refused fault)
settles_faulty selection context new held behind ready is_more block fault order order_is next fits is none same = (
  none,
  same,
  λ rest end.
      let here = block_grown context held rest behind block (next ∙ ap (λ o. next_block o held) order_is) fits in
      ap told_reading (packets-faulty selection context (held ++ rest) block rest fault.fault here is.0)
      ∙ ap (λ f. told_reading (ended context (EndsFaulty f))) (sym is.1),
)

-- no rest
at_end : (held rest : List ℕ) → rest ≡ [] → held ++ rest ≡ held
at_end held rest end = ap (λ t. held ++ t) end ∙ append-nil held

abbrev told_as : Context → List ℕ → Told
told_as context octets = record { octets = octets; fault = None; left_out = context.left_out }

-- no block is left, and nothing behind what is held
settles_ended : (selection : Selection) (context : Context) (held ready : List ℕ) (is_more : Bool) (end : BlockEnd) → NoBlock end ≡ next_block context.order held → is_more ≡ false
    → told_reading (ended context (end_at context end)) ≡ told_as context ready → IsSettled selection context context held ready is_more settled.Ended
settles_ended selection context held ready is_more end here last told = (
  refl,
  λ rest none.
      ap (λ t. told_reading (packets_in selection context t)) (at_end held rest (none last))
      ∙ ap told_reading (packets-end selection context held end here)
      ∙ told,
)

-- the text ends behind a block
pub settles_whole : (selection : Selection) (context : Context) (held ready : List ℕ) (is_more : Bool) (order : Option Order)
    → order ≡ context.order → NoBlock AllRead ≡ next_block order held → Long is_more held → ready ≡ [] → IsSettled selection context context held ready is_more settled.Ended
settles_whole selection context held ready is_more order order_is next long none =
    let here = next ∙ ap (λ o. next_block o held) order_is in
    settles_ended selection context held ready is_more AllRead here (by_more is_more refl here) (ap (λ t. told_as context t) (sym none))
  where
    by_more : (b : Bool) → is_more ≡ b → NoBlock AllRead ≡ next_block context.order held → is_more ≡ false
    by_more false e here = e
    by_more true e here = absurd (not_all_read context.order held (long e) here)

-- it ends within one
pub settles_cut : (selection : Selection) (context : Context) (held ready : List ℕ) (is_more : Bool) (order : Option Order)
    → order ≡ context.order → NoBlock CutShort ≡ next_block order held → is_more ≡ false → ready ≡ 0 ∷ [] → IsSettled selection context context held ready is_more settled.Ended
settles_cut selection context held ready is_more order order_is next last cut =
    settles_ended selection context held ready is_more CutShort (next ∙ ap (λ o. next_block o held) order_is) last (ap (λ t. told_as context t) (sym cut))

-- what stands there is no block
pub settles_refused : (selection : Selection) (context : Context) (held ready : List ℕ) (is_more : Bool) (order : Option Order) (fault : BlockFault) (told : PcapngFault)
    → order ≡ context.order → NoBlock (Refused fault) ≡ next_block order held → Long is_more held → ready ≡ [] → told ≡ block_fault_at context fault
    → IsSettled selection context context held ready is_more (settled.Refused told)
settles_refused selection context held ready is_more order fault told order_is next long none is = (
  none,
  refl,
  λ rest end.
      ap told_reading (packets-end selection context (held ++ rest) (Refused fault) (by_more rest end is_more refl))
      ∙ ap (λ f. told_reading (ended context (EndsFaulty f))) (sym is),
)
  where
    here : NoBlock (Refused fault) ≡ next_block context.order held
    here = next ∙ ap (λ o. next_block o held) order_is

    by_more : (rest : List ℕ) → IsRest is_more rest → (b : Bool) → is_more ≡ b → NoBlock (Refused fault) ≡ next_block context.order (held ++ rest)
    by_more rest end false e = here ∙ ap (next_block context.order) (sym (at_end held rest (end e)))
    by_more rest end true e =
        sym (subst (λ n. Grows n (next_block context.order (held ++ rest)) rest) (sym here) (grown context.order held rest (long e)))

-- more of the block is wanted
pub settles_wanting : (selection : Selection) (context : Context) (held ready : List ℕ) (is_more : Bool) (order : Option Order) (result : Settled)
    → order ≡ context.order → NoBlock CutShort ≡ next_block order held → 12 ≤ length held → length held ≤ longest_block → ready ≡ []
    → result ≡ wanting_by (order_at order held) held → IsSettled selection context context held ready is_more result
settles_wanting selection context held ready is_more order result order_is next long room none is =
    let here = next ∙ ap (λ o. next_block o held) order_is in
    let cut = cut_block context.order held long here in
    let answer : result ≡ wanting_by (Some cut.0) held = is ∙ ap (λ o. wanting_by (order_at o held) held) order_is ∙ ap (λ o. wanting_by o held) cut.1.told in
    subst (IsSettled selection context context held ready is_more) (sym answer) (by_size cut.0 cut.1 (nat_lt longest_block (number_of cut.0 4 (drop 4 held))) refl)
  where
    by_size : (o : Order) → IsCutBlock context.order held o → (b : Bool) → nat_lt longest_block (number_of o 4 (drop 4 held)) ≡ b
        → IsSettled selection context context held ready is_more
        (if b then settled.Long o (number_of o 4 (drop 4 held)) else settled.Unfinished)
    by_size o cut true more =
        let size = number_of o 4 (drop 4 held) in
        let aligned : size % 4 ≡ 0 = eqb-true _ _ (not-false _ (or_parts _ _ cut.fine).1) in
        let long_block = ltb-true longest_block size more in (
          none,
          refl,
          omega (arith, aligned, long_block, room),
          long,
          omega (arith, cut.part, wanted-told context.order held o long cut.told (twelve size cut.fine)),
          λ rest. ap told_reading (passes selection context held rest o long cut long_block),
        )
    by_size o cut false more =
        let size = number_of o 4 (drop 4 held) in
        let wanted = wanted-told context.order held o long cut.told (twelve size cut.fine) in
        (none, refl, record { part = omega (arith, wanted, cut.part); room = omega (arith, wanted, ltb-false longest_block size more) })
