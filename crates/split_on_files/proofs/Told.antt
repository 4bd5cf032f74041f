-- What is told of each interface in front of a block and behind it.
use Rattle.std.proofs.Common.{◌≡◌, ◌∙◌, refl, sym, ap, subst, ℕ, zero, suc, ◌+◌, ◌<◌, ◌≤◌, Bool, true, false, List, [], ◌∷◌, ◌++◌, length, arith, Option, None, Some, Result, Ok, Err}
use Rattle.std.specs.Prelude.{◌==◌, if◌then◌else◌, is_some, slice_get, slice_index_or, slice_set}
use Rattle.std.proofs.lemmas.Bool.{eq-eqb, eqb-true}
use Rattle.pcap.specs.Record.{Record, last_moment}
use Rattle.pcap.specs.Written.{written_record}
use Rattle.pcap.specs.declared.text.style.Order.{Order}
use Rattle.pcapng_input.proofs.Readings.{packets-behind, packets-faulty}
use Rattle.pcapng_input.proofs.Settling.{told_found}
use Rattle.pcapng_input.specs.Adapted.{told_behind, told_end, told_reading}
use Rattle.pcapng_input.specs.Block.{AnotherBlock, Block, next_block}
use Rattle.pcapng_input.specs.Classic.{found_text}
use Rattle.pcapng_input.specs.Meaning.{block_meaning, interface_named}
use Rattle.pcapng_input.specs.Reading.{Context, EndsFaulty, packets_in, step_by, step_of}
use Rattle.pcapng_input.specs.declared.fault.BlockFault.{BlockFault}
use Rattle.pcapng_input.specs.declared.fault.PcapngFault.{PcapngFault}
use Rattle.pcapng_input.specs.declared.interface.Interface.{Interface}
use Rattle.pcapng_input.specs.declared.interface.Selection.TheVariants.{All, Number}
use Rattle.pcapng_input.specs.declared.meaning.BlockMeaning.{BlockMeaning}
use Rattle.pcapng_input.specs.declared.meaning.BlockMeaning.TheVariants.{Described, Nothing, Outbound, Packet, Section}
use Rattle.split_on_files.proofs.Chosen.{first-append}
use Rattle.split_on_files.proofs.Meant.{another, others, own, renamed}
use Rattle.split_on_files.specs.Lanes.{Section as LaneSection, as_selected, context_of, empty_lane, lane_at, only, told_in, told_of}
use Rattle.split_on_files.specs.Steps.{AllTaken, AllWithin, IsLengthened, IsOf, IsOfNone, Lanes, TellsAll, lanes_past, same_past, section_past, told_at_fault}
use Rattle.split_on_files.specs.declared.capture_split.lane.Lane.{Lane}
use Rattle.split_on_files.specs.declared.capture_split.taken.Taken.TheVariants as taken

-- ---- what is known of an interface's packets

pub set_same : (lanes : List Lane) (at : ℕ) (lane : Lane) → at < length lanes → lane_at (slice_set lanes at lane) at ≡ lane
set_same [] at lane fits = absurd (omega (arith, fits))
set_same (first ∷ more) zero lane fits = refl
set_same (first ∷ more) (suc at) lane fits = set_same more at lane (omega (arith, fits))

pub set_other : (lanes : List Lane) (at number : ℕ) (lane : Lane) → (number ≡ at → ⊥) → lane_at (slice_set lanes at lane) number ≡ lane_at lanes number
set_other [] at number lane differ = refl
set_other (first ∷ more) zero zero lane differ = absurd (differ refl)
set_other (first ∷ more) zero (suc number) lane differ = refl
set_other (first ∷ more) (suc at) zero lane differ = refl
set_other (first ∷ more) (suc at) (suc number) lane differ = set_other more at number lane (λ e. differ (ap suc e))

-- what stands at a place doesn't hang on what stands behind the end
pub lane_default : (lanes : List Lane) (at : ℕ) (other : Lane) → at < length lanes → slice_index_or lanes at other ≡ lane_at lanes at
lane_default [] at other fits = absurd (omega (arith, fits))
lane_default (first ∷ more) zero other fits = refl
lane_default (first ∷ more) (suc at) other fits = lane_default more at other (omega (arith, fits))

pub lane_found : (lanes : List Lane) (at : ℕ) (lane : Lane) → slice_get lanes at ≡ Some lane → lane_at lanes at ≡ lane
lane_found [] at lane is = absurd cc
lane_found (first ∷ more) zero lane is = same_lane first lane is
  where
    lane_in : Lane → Option Lane → Lane
    lane_in other None = other
    lane_in other (Some l) = l

    same_lane : (a b : Lane) → Some a ≡ Some b → a ≡ b
    same_lane a b e = ap (lane_in a) e
lane_found (first ∷ more) (suc at) lane is = lane_found more at lane is

pub lane_none : (lanes : List Lane) (at : ℕ) → slice_get lanes at ≡ None → lane_at lanes at ≡ empty_lane
lane_none [] at is = refl
lane_none (first ∷ more) zero is = absurd cc
lane_none (first ∷ more) (suc at) is = lane_none more at is

pub lengthened : (lanes : List Lane) → IsLengthened lanes (lanes ++ empty_lane ∷ [])
lengthened [] zero = refl
lengthened [] (suc number) = refl
lengthened (first ∷ more) zero = refl
lengthened (first ∷ more) (suc number) = lengthened more number

pub within_get : (blocks : ℕ) (lanes : List Lane) (at : ℕ) → AllWithin blocks lanes → at < length lanes
    → ((lane_at lanes at).last ≤ last_moment) × ((lane_at lanes at).left_out ≤ blocks)
within_get blocks [] at all fits = absurd (omega (arith, fits))
within_get blocks (first ∷ more) zero all fits = (all.0, all.1)
within_get blocks (first ∷ more) (suc at) all fits = within_get blocks more at all.2 (omega (arith, fits))

pub within_more : (blocks more_blocks : ℕ) (lanes : List Lane) → blocks ≤ more_blocks → AllWithin blocks lanes → AllWithin more_blocks lanes
within_more blocks more_blocks [] fits all = tt
within_more blocks more_blocks (first ∷ more) fits all = (all.0, omega (arith, all.1, fits), within_more blocks more_blocks more fits all.2)

pub within_set : (blocks : ℕ) (lanes : List Lane) (at : ℕ) (lane : Lane) → AllWithin blocks lanes → lane.last ≤ last_moment → lane.left_out ≤ blocks
    → AllWithin blocks (slice_set lanes at lane)
within_set blocks [] at lane all last left_out = tt
within_set blocks (first ∷ more) zero lane all last left_out = (last, left_out, all.2)
within_set blocks (first ∷ more) (suc at) lane all last left_out = (all.0, all.1, within_set blocks more at lane all.2 last left_out)

pub within_append : (blocks : ℕ) (lanes : List Lane) → AllWithin blocks lanes → AllWithin blocks (lanes ++ empty_lane ∷ [])
within_append blocks [] all = (omega arith, omega arith, tt)
within_append blocks (first ∷ more) all = (all.0, all.1, within_append blocks more all.2)

-- ---- one interface

abbrev pub meant_for : Lanes → Block → ℕ → Result BlockMeaning BlockFault
meant_for l block number = block_meaning (Number number) (only number 0 l.section.interfaces) (lane_at l.lanes number).last block

step-meant : (l : Lanes) (block : Block) (number : ℕ) (meant : BlockMeaning) → meant_for l block number ≡ Ok meant
    → step_of (Number number) (context_of l.section number (lane_at l.lanes number)) block
    ≡ step_by (context_of l.section number (lane_at l.lanes number)) block (Ok meant)
unfolding step_of
step-meant l block number meant is = ap (step_by (context_of l.section number (lane_at l.lanes number)) block) is

step-faulty : (l : Lanes) (block : Block) (number : ℕ) (fault : BlockFault) → meant_for l block number ≡ Err fault
    → step_of (Number number) (context_of l.section number (lane_at l.lanes number)) block ≡ Err fault
unfolding step_of
step-faulty l block number fault is = ap (step_by (context_of l.section number (lane_at l.lanes number)) block) is

-- a block that means this to an interface without a fault, and where that leads
tells_meant : (old : Lanes) (section : LaneSection) (lane : Lane) (block : Block) (number : ℕ) (text rest : List ℕ) (meant : BlockMeaning) (found : Option Record)
    → AnotherBlock block rest ≡ next_block old.section.order text → meant_for old block number ≡ Ok meant
    → step_by (context_of old.section number (lane_at old.lanes number)) block (Ok meant) ≡ Ok (record { context = context_of section number lane; found = found })
    → told_in old.section number None (lane_at old.lanes number) text ≡ told_behind (found_text found) (told_in section number None lane rest)
tells_meant old section lane block number text rest meant found next is leads =
    ap told_reading (packets-behind (Number number) (context_of old.section number (lane_at old.lanes number)) text block rest
    (record { context = context_of section number lane; found = found }) next (step-meant old block number meant is ∙ leads))
    ∙ told_found found (packets_in (Number number) (context_of section number lane) rest)

tells_fault : (old : Lanes) (block : Block) (number : ℕ) (text rest : List ℕ) (fault : BlockFault)
    → AnotherBlock block rest ≡ next_block old.section.order text → meant_for old block number ≡ Err fault
    → told_in old.section number None (lane_at old.lanes number) text
    ≡ told_end (lane_at old.lanes number).left_out (EndsFaulty (record { fault = fault; block = old.section.blocks + 1; offset = old.section.offset }))
tells_fault old block number text rest fault next is =
    ap told_reading (packets-faulty (Number number) (context_of old.section number (lane_at old.lanes number)) text block rest fault next (step-faulty old block number fault is))

-- a block that means nothing to an interface, or this one has a fault already
abbrev pub MeansNothing : Lanes → Block → ℕ → Type 0
MeansNothing l block number = (lane_at l.lanes number).fault ≡ None → meant_for l block number ≡ Ok Nothing

pub tells_nothing : (old : Lanes) (lanes : List Lane) (block : Block) (number : ℕ) (text rest : List ℕ) → AnotherBlock block rest ≡ next_block old.section.order text
    → lane_at lanes number ≡ lane_at old.lanes number → MeansNothing old block number
    → told_of old.section old.lanes number text ≡ told_of (section_past old.section (12 + length block.body)) lanes number rest
tells_nothing old lanes block number text rest next same nothing =
    by_fault (lane_at old.lanes number).fault refl ∙ ap (λ (l : Lane). told_in section number l.fault l rest) (sym same)
  where
    section : LaneSection
    section = section_past old.section (12 + length block.body)

    by_fault : (f : Option PcapngFault) → (lane_at old.lanes number).fault ≡ f
        → told_in old.section number f (lane_at old.lanes number) text ≡ told_in section number f (lane_at old.lanes number) rest
    by_fault None e = tells_meant old section (lane_at old.lanes number) block number text rest Nothing None next (nothing e) refl
    by_fault (Some fault) e = refl

-- ---- a block of an interface's packet

described : (l : Lanes) (block : Block) (at : ℕ) → IsOf l block at → (i : Interface) × (slice_get l.section.interfaces at ≡ Some i)
described l block at is = by_list l.section.interfaces at is.described
  where
    by_list : (is : List Interface) (at : ℕ) → at < length is → (i : Interface) × (slice_get is at ≡ Some i)
    by_list [] at fits = absurd (omega (arith, fits))
    by_list (i ∷ more) zero fits = (i, refl)
    by_list (i ∷ more) (suc at) fits = by_list more at (omega (arith, fits))

-- the others
tells_another : (old : Lanes) (lanes : List Lane) (block : Block) (at number : ℕ) (text rest : List ℕ) → IsOf old block at → (number == at) ≡ false
    → AnotherBlock block rest ≡ next_block old.section.order text → lane_at lanes number ≡ lane_at old.lanes number
    → told_of old.section old.lanes number text ≡ told_of (section_past old.section (12 + length block.body)) lanes number rest
tells_another old lanes block at number text rest is differ next same =
    let i = described old block at is in
    tells_nothing old lanes block number text rest next same
    (λ none. another number old.section.interfaces (lane_at old.lanes number).last block at i.0 is.named i.1 differ)

differs : (number at : ℕ) → (number == at) ≡ false → number ≡ at → ⊥
differs number at differ same = let e : true ≡ false = sym (eq-eqb number at same) ∙ differ in cc

-- where it means nothing to the interface whose packet it is, or that one has a fault already
tells_still : (old : Lanes) (block : Block) (at : ℕ) (record_text : List ℕ) → IsOf old block at → MeansNothing old block at
    → TellsAll old (same_past old (12 + length block.body)) block taken.Nothing record_text
tells_still old block at record_text is nothing number text rest next = by_number (number == at) refl
  where
    section : LaneSection
    section = section_past old.section (12 + length block.body)

    by_number : (b : Bool) → (number == at) ≡ b → told_of old.section old.lanes number text ≡ told_of section old.lanes number rest
    by_number false e = tells_another old old.lanes block at number text rest is e next refl
    by_number true e =
        subst (λ n. told_of old.section old.lanes n text ≡ told_of section old.lanes n rest) (sym (eqb-true number at e))
        (tells_nothing old old.lanes block at text rest next refl nothing)

some_differs : (f : Option PcapngFault) → is_some f ≡ true → f ≡ None → ⊥
some_differs None is none = cc
some_differs (Some fault) is none = cc

-- an interface with a fault has it still
pub tells_behind_fault : (old new : Lanes) (block : Block) (at size : ℕ) (lane : Lane) (record_text : List ℕ) → IsOf old block at → size ≡ 12 + length block.body
    → lane ≡ lane_at old.lanes at → is_some lane.fault ≡ true → new ≡ same_past old size → TellsAll old new block taken.Nothing record_text
tells_behind_fault old new block at size lane record_text is size_is lane_is has new_is =
    subst (λ (l : Lanes). TellsAll old l block taken.Nothing record_text) (sym (new_is ∙ ap (same_past old) size_is))
    (tells_still old block at record_text is
    (λ none. absurd (some_differs (lane_at old.lanes at).fault (ap (λ (l : Lane). is_some l.fault) (sym lane_is) ∙ has) none)))

-- one whose packet means nothing to it
pub tells_idle : (old new : Lanes) (block : Block) (at size : ℕ) (lane : Lane) (meant : BlockMeaning) (record_text : List ℕ) → IsOf old block at
    → size ≡ 12 + length block.body → lane ≡ lane_at old.lanes at → block_meaning All old.section.interfaces lane.last block ≡ Ok meant → meant ≡ Nothing
    → new ≡ same_past old size → TellsAll old new block taken.Nothing record_text
tells_idle old new block at size lane meant record_text is size_is lane_is meaning nothing new_is =
    subst (λ (l : Lanes). TellsAll old l block taken.Nothing record_text) (sym (new_is ∙ ap (same_past old) size_is))
    (tells_still old block at record_text is
    (λ none. own at old.section.interfaces (lane_at old.lanes at).last block at is.taken is.named (eq-eqb at at refl)
    ∙ ap (λ (l : Lane). block_meaning All old.section.interfaces l.last block) (sym lane_is) ∙ meaning ∙ ap Ok nothing))

-- the interface whose packet it is, where it has no fault yet
own_tells : (old : Lanes) (block : Block) (at : ℕ) (text rest : List ℕ) (lane : Lane) (meant : BlockMeaning) (found : Option Record) → IsOf old block at
    → (lane_at old.lanes at).fault ≡ None → lane.fault ≡ None → block_meaning All old.section.interfaces (lane_at old.lanes at).last block ≡ Ok meant
    → AnotherBlock block rest ≡ next_block old.section.order text
    → step_by (context_of old.section at (lane_at old.lanes at)) block (Ok meant)
    ≡ Ok (record { context = context_of (section_past old.section (12 + length block.body)) at lane; found = found })
    → told_of old.section old.lanes at text
    ≡ told_behind (found_text found) (told_of (section_past old.section (12 + length block.body)) (slice_set old.lanes at lane) at rest)
own_tells old block at text rest lane meant found is none still meaning next leads =
    ap (λ f. told_in old.section at f (lane_at old.lanes at) text) none
    ∙ tells_meant old section lane block at text rest meant found next
    (own at old.section.interfaces (lane_at old.lanes at).last block at is.taken is.named (eq-eqb at at refl) ∙ meaning) leads
    ∙ ap (λ f. told_behind (found_text found) (told_in section at f lane rest)) (sym still)
    ∙ ap (λ (l : Lane). told_behind (found_text found) (told_in section at l.fault l rest)) (sym (set_same old.lanes at lane is.known))
  where
    section : LaneSection
    section = section_past old.section (12 + length block.body)

-- all interfaces, by the one whose packet it is
all_tell : (old : Lanes) (block : Block) (at : ℕ) (lane : Lane) (given : ℕ → List ℕ) → IsOf old block at
    → ((number : ℕ) → (number == at) ≡ false → given number ≡ [])
    → ((text rest : List ℕ) → AnotherBlock block rest ≡ next_block old.section.order text
    → told_of old.section old.lanes at text
    ≡ told_behind (given at) (told_of (section_past old.section (12 + length block.body)) (slice_set old.lanes at lane) at rest))
    → (number : ℕ) (text rest : List ℕ) → AnotherBlock block rest ≡ next_block old.section.order text
    → told_of old.section old.lanes number text
    ≡ told_behind (given number) (told_of (section_past old.section (12 + length block.body)) (slice_set old.lanes at lane) number rest)
all_tell old block at lane given is none own_is number text rest next = by_number (number == at) refl
  where
    section : LaneSection
    section = section_past old.section (12 + length block.body)

    by_number : (b : Bool) → (number == at) ≡ b
        → told_of old.section old.lanes number text ≡ told_behind (given number) (told_of section (slice_set old.lanes at lane) number rest)
    by_number false e =
        tells_another old (slice_set old.lanes at lane) block at number text rest is e next (set_other old.lanes at number lane (differs number at e))
        ∙ ap (λ t. told_behind t (told_of section (slice_set old.lanes at lane) number rest)) (sym (none number e))
    by_number true e =
        subst (λ n. told_of old.section old.lanes n text ≡ told_behind (given n) (told_of section (slice_set old.lanes at lane) n rest)) (sym (eqb-true number at e))
        (own_is text rest next)

pub tells_packet : (old new : Lanes) (block : Block) (at size : ℕ) (lane after : Lane) (r : Record) (record_text : List ℕ) → IsOf old block at
    → size ≡ 12 + length block.body → lane ≡ lane_at old.lanes at → lane.fault ≡ None → block_meaning All old.section.interfaces lane.last block ≡ Ok (Packet r)
    → record_text ≡ written_record r → after ≡ record lane { last = r.moment } → new ≡ lanes_past old size at after
    → TellsAll old new block (taken.Packet at) record_text
tells_packet old new block at size lane after r record_text is size_is lane_is none meaning text_is after_is new_is =
    subst (λ (l : Lanes). TellsAll old l block (taken.Packet at) record_text) (sym (new_is ∙ ap (λ n. lanes_past old n at after) size_is ∙ ap (λ l. lanes_past old (12 + length block.body) at l) behind_is))
    (all_tell old block at behind (λ number. if number == at then record_text else []) is (λ number e. ap (λ b. if b then record_text else []) e)
    (λ text rest next. own_tells old block at text rest behind (Packet r) (Some r) is here here now next refl
    ∙ ap (λ t. told_behind t (told_of (section_past old.section (12 + length block.body)) (slice_set old.lanes at behind) at rest)) given))
  where
    behind : Lane
    behind = record (lane_at old.lanes at) { last = r.moment }

    behind_is : after ≡ behind
    behind_is = after_is ∙ ap (λ (l : Lane). record l { last = r.moment }) lane_is

    here : (lane_at old.lanes at).fault ≡ None
    here = ap (λ (l : Lane). l.fault) (sym lane_is) ∙ none

    now : block_meaning All old.section.interfaces (lane_at old.lanes at).last block ≡ Ok (Packet r)
    now = ap (λ (l : Lane). block_meaning All old.section.interfaces l.last block) (sym lane_is) ∙ meaning

    given : written_record r ≡ (if at == at then record_text else [])
    given = sym text_is ∙ sym (ap (λ b. if b then record_text else []) (eq-eqb at at refl))

pub tells_outbound : (old new : Lanes) (block : Block) (at size : ℕ) (lane after : Lane) (record_text : List ℕ) → IsOf old block at
    → size ≡ 12 + length block.body → lane ≡ lane_at old.lanes at → lane.fault ≡ None → block_meaning All old.section.interfaces lane.last block ≡ Ok Outbound
    → after ≡ record lane { left_out = lane.left_out + 1 } → new ≡ lanes_past old size at after
    → TellsAll old new block taken.Nothing record_text
tells_outbound old new block at size lane after record_text is size_is lane_is none meaning after_is new_is =
    subst (λ (l : Lanes). TellsAll old l block taken.Nothing record_text) (sym (new_is ∙ ap (λ n. lanes_past old n at after) size_is ∙ ap (λ l. lanes_past old (12 + length block.body) at l) behind_is))
    (all_tell old block at behind (λ number. []) is (λ number e. refl)
    (λ text rest next. own_tells old block at text rest behind Outbound None is here here now next refl))
  where
    behind : Lane
    behind = record (lane_at old.lanes at) { left_out = (lane_at old.lanes at).left_out + 1 }

    behind_is : after ≡ behind
    behind_is = after_is ∙ ap (λ (l : Lane). record l { left_out = l.left_out + 1 }) lane_is

    here : (lane_at old.lanes at).fault ≡ None
    here = ap (λ (l : Lane). l.fault) (sym lane_is) ∙ none

    now : block_meaning All old.section.interfaces (lane_at old.lanes at).last block ≡ Ok Outbound
    now = ap (λ (l : Lane). block_meaning All old.section.interfaces l.last block) (sym lane_is) ∙ meaning

pub tells_faulty : (old new : Lanes) (block : Block) (at size : ℕ) (lane after : Lane) (fault : BlockFault) (told : PcapngFault) (record_text : List ℕ) → IsOf old block at
    → size ≡ 12 + length block.body → lane ≡ lane_at old.lanes at → lane.fault ≡ None → block_meaning All old.section.interfaces lane.last block ≡ Err fault
    → told ≡ record { fault = fault; block = old.section.blocks + 1; offset = old.section.offset }
    → after ≡ record lane { fault = Some told } → new ≡ lanes_past old size at after
    → TellsAll old new block taken.Nothing record_text
tells_faulty old new block at size lane after fault told record_text is size_is lane_is none meaning told_is after_is new_is =
    subst (λ (l : Lanes). TellsAll old l block taken.Nothing record_text) (sym (new_is ∙ ap (λ n. lanes_past old n at after) size_is ∙ ap (λ l. lanes_past old (12 + length block.body) at l) behind_is))
    (all_tell old block at behind (λ number. []) is (λ number e. refl) own_is)
  where
    section : LaneSection
    section = section_past old.section (12 + length block.body)

    behind : Lane
    behind = record (lane_at old.lanes at) { fault = Some told }

    behind_is : after ≡ behind
    behind_is = after_is ∙ ap (λ (l : Lane). record l { fault = Some told }) lane_is

    here : (lane_at old.lanes at).fault ≡ None
    here = ap (λ (l : Lane). l.fault) (sym lane_is) ∙ none

    now : meant_for old block at ≡ Err fault
    now =
        own at old.section.interfaces (lane_at old.lanes at).last block at is.taken is.named (eq-eqb at at refl)
        ∙ ap (λ (l : Lane). block_meaning All old.section.interfaces l.last block) (sym lane_is) ∙ meaning

    own_is : (text rest : List ℕ) → AnotherBlock block rest ≡ next_block old.section.order text
        → told_of old.section old.lanes at text ≡ told_of section (slice_set old.lanes at behind) at rest
    own_is text rest next =
        ap (λ f. told_in old.section at f (lane_at old.lanes at) text) here
        ∙ tells_fault old block at text rest fault next now
        ∙ ap (λ f. told_end (lane_at old.lanes at).left_out (EndsFaulty f)) (sym told_is)
        ∙ ap (λ (l : Lane). told_in section at l.fault l rest) (sym (set_same old.lanes at behind is.known))

-- ---- another block

-- where the block leads each interface to the same section
tells_other : (old new : Lanes) (section : LaneSection) (block : Block) (meant : BlockMeaning) (to : ℕ → BlockMeaning) (record_text : List ℕ)
    → IsOfNone old.section.interfaces (interface_named block)
    → block_meaning All old.section.interfaces 0 block ≡ Ok meant → new.section ≡ section → IsLengthened old.lanes new.lanes
    → ((number : ℕ) → renamed number old.section.interfaces (Ok meant) ≡ Ok (to number))
    → ((number : ℕ) → step_by (context_of old.section number (lane_at old.lanes number)) block (Ok (to number))
    ≡ Ok (record { context = context_of section number (lane_at old.lanes number); found = None }))
    → TellsAll old new block taken.Nothing record_text
tells_other old new section block meant to record_text none meaning section_is same renames leads number text rest next =
    by_fault (lane_at old.lanes number).fault
    ∙ ap (λ (l : Lane). told_in section number l.fault l rest) (sym (same number))
    ∙ ap (λ (s : LaneSection). told_of s new.lanes number rest) (sym section_is)
  where
    meant_is : meant_for old block number ≡ Ok (to number)
    meant_is =
        others number old.section.interfaces (lane_at old.lanes number).last block none ∙ ap (renamed number old.section.interfaces) meaning ∙ renames number

    by_fault : (f : Option PcapngFault)
        → told_in old.section number f (lane_at old.lanes number) text ≡ told_in section number f (lane_at old.lanes number) rest
    by_fault None = tells_meant old section (lane_at old.lanes number) block number text rest (to number) None next meant_is (leads number)
    by_fault (Some fault) = refl

pub tells_section : (old new : Lanes) (block : Block) (size : ℕ) (order : Order) (record_text : List ℕ) → IsOfNone old.section.interfaces (interface_named block)
    → size ≡ 12 + length block.body → order ≡ block.order → block_meaning All old.section.interfaces 0 block ≡ Ok Section
    → new ≡ record { section = section_past (record old.section { order = Some order; interfaces = [] }) size; lanes = old.lanes }
    → TellsAll old new block taken.Nothing record_text
tells_section old new block size order record_text none size_is order_is meaning new_is =
    tells_other old new (section_past (record old.section { order = Some block.order; interfaces = [] }) (12 + length block.body)) block Section (λ number. Section) record_text
    none meaning
    (ap (λ (l : Lanes). l.section) new_is
    ∙ ap (λ n. section_past (record old.section { order = Some order; interfaces = [] }) n) size_is
    ∙ ap (λ o. section_past (record old.section { order = Some o; interfaces = [] }) (12 + length block.body)) order_is)
    (λ number. ap (λ (l : Lanes). lane_at l.lanes number) new_is) (λ number. refl) (λ number. refl)

pub tells_described : (old new : Lanes) (block : Block) (size : ℕ) (i : Interface) (record_text : List ℕ) → IsOfNone old.section.interfaces (interface_named block)
    → size ≡ 12 + length block.body → block_meaning All old.section.interfaces 0 block ≡ Ok (Described i)
    → new.section ≡ section_past (record old.section { interfaces = old.section.interfaces ++ i ∷ [] }) size → IsLengthened old.lanes new.lanes
    → TellsAll old new block taken.Nothing record_text
tells_described old new block size i record_text none size_is meaning section_is same =
    tells_other old new section block (Described i) (λ number. Described (as_selected (number == length old.section.interfaces) i)) record_text none meaning
    (section_is ∙ ap (λ n. section_past (record old.section { interfaces = old.section.interfaces ++ i ∷ [] }) n) size_is) same (λ number. refl) leads
  where
    section : LaneSection
    section = section_past (record old.section { interfaces = old.section.interfaces ++ i ∷ [] }) (12 + length block.body)

    with_interfaces : ℕ → List Interface → Context
    with_interfaces number is = record {
      order = old.section.order;
      interfaces = is;
      last = (lane_at old.lanes number).last;
      left_out = (lane_at old.lanes number).left_out;
      blocks = old.section.blocks + 1;
      offset = old.section.offset + (12 + length block.body);
    }

    leads : (number : ℕ) → step_by (context_of old.section number (lane_at old.lanes number)) block (Ok (Described (as_selected (number == length old.section.interfaces) i)))
        ≡ Ok (record { context = context_of section number (lane_at old.lanes number); found = None })
    leads number = ap (λ is. Ok (record { context = with_interfaces number is; found = None })) (sym (first-append number old.section.interfaces i))

pub tells_none : (old new : Lanes) (block : Block) (size : ℕ) (record_text : List ℕ) → IsOfNone old.section.interfaces (interface_named block)
    → size ≡ 12 + length block.body → block_meaning All old.section.interfaces 0 block ≡ Ok Nothing → new ≡ same_past old size
    → TellsAll old new block taken.Nothing record_text
tells_none old new block size record_text none size_is meaning new_is =
    tells_other old new (section_past old.section (12 + length block.body)) block Nothing (λ number. Nothing) record_text none meaning
    (ap (λ (l : Lanes). l.section) new_is ∙ ap (section_past old.section) size_is)
    (λ number. ap (λ (l : Lanes). lane_at l.lanes number) new_is) (λ number. refl) (λ number. refl)

pub tells_refused : (old new : Lanes) (block : Block) (fault : BlockFault) (told : PcapngFault) (record_text : List ℕ) → IsOfNone old.section.interfaces (interface_named block)
    → block_meaning All old.section.interfaces 0 block ≡ Err fault → told ≡ record { fault = fault; block = old.section.blocks + 1; offset = old.section.offset }
    → TellsAll old new block (taken.Refused told) record_text
tells_refused old new block fault told record_text none meaning told_is number text rest next = by_fault (lane_at old.lanes number).fault
  where
    by_fault : (f : Option PcapngFault) → told_in old.section number f (lane_at old.lanes number) text ≡ told_at_fault (lane_at old.lanes number) told f
    by_fault None =
        tells_fault old block number text rest fault next
        (others number old.section.interfaces (lane_at old.lanes number).last block none ∙ ap (renamed number old.section.interfaces) meaning)
        ∙ ap (λ f. told_end (lane_at old.lanes number).left_out (EndsFaulty f)) (sym told_is)
    by_fault (Some own) = refl

-- there is one interface more behind one that is described
pub one_more : (old new : LaneSection) (i : Interface) (size number : ℕ) → new ≡ section_past (record old { interfaces = old.interfaces ++ i ∷ [] }) size
    → number ≡ length old.interfaces → length new.interfaces ≡ number + 1
one_more old new i size number new_is number_is = ap (λ (s : LaneSection). length s.interfaces) new_is ∙ grown old.interfaces ∙ ap (λ n. n + 1) (sym number_is)
  where
    grown : (is : List Interface) → length (is ++ i ∷ []) ≡ length is + 1
    grown [] = refl
    grown (first ∷ more) = let rest = grown more in omega (arith, rest)

set_length : (lanes : List Lane) (at : ℕ) (lane : Lane) → length (slice_set lanes at lane) ≡ length lanes
set_length [] at lane = refl
set_length (first ∷ more) zero lane = refl
set_length (first ∷ more) (suc at) lane = ap suc (set_length more at lane)

-- what is kept of the lanes where one changes behind a block
pub noted : (is : List Interface) (blocks : ℕ) (lanes : List Lane) (at : ℕ) (lane : Lane) → AllTaken is → AllWithin blocks lanes → length is ≤ length lanes
    → lane.last ≤ last_moment → lane.left_out ≤ blocks + 1
    → AllTaken is × AllWithin (blocks + 1) (slice_set lanes at lane) × (length is ≤ length (slice_set lanes at lane))
noted is blocks lanes at lane taken within fits last left_out =
    let same = set_length lanes at lane in
    (taken, within_set (blocks + 1) lanes at lane (within_more blocks (blocks + 1) lanes (omega arith) within) last left_out, omega (arith, same, fits))
