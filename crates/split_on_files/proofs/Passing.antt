-- Where a step of a pass leads.
use Rattle.std.proofs.Common.{◌≡◌, ◌∙◌, refl, sym, ap, subst, ℕ, ◌+◌, ◌-◌, ◌≤◌, Bool, true, false, List, [], ◌++◌, length, take, drop, arith, length-drop, Option, None, Some, Result, Ok, Err}
use Rattle.std.specs.Prelude.{option_map, IfOk, IfSome}
use Rattle.pcap.specs.declared.text.style.Order.{Order}
use Rattle.pcapng_input.proofs.Passing.{other_meaning}
use Rattle.pcapng_input.proofs.Readings.{behind_block, packets-end}
use Rattle.pcapng_input.specs.Adapted.{told_behind, told_end, told_reading}
use Rattle.pcapng_input.specs.Adapter.{Gathered}
use Rattle.pcapng_input.specs.Block.{AllRead, AnotherBlock, Block, BlockEnd, CutShort, NoBlock, Refused, next_block}
use Rattle.pcapng_input.specs.Filled.{IsFilled, IsPassedBlock, OfTexts, StandsNext, octets_left, text_left}
use Rattle.pcapng_input.specs.Reading.{end_at, ended}
use Rattle.pcapng_input.specs.declared.fault.BlockFault.{BlockFault}
use Rattle.pcapng_input.specs.declared.fault.BlockFault.TheVariants.{BadLength}
use Rattle.pcapng_input.specs.declared.fault.PcapngFault.{PcapngFault}
use Rattle.pcapng_input.specs.declared.filling.Filled.TheVariants as filled
use Rattle.pcapng_input.specs.declared.interface.Selection.TheVariants.{Number}
use Rattle.pcapng_input.specs.declared.stop.Stop.{Stop}
use Rattle.split_on_files.proofs.Told.{tells_nothing}
use Rattle.split_on_files.specs.Lanes.{Section, context_of, lane_at, only, told_in, told_of}
use Rattle.split_on_files.specs.Pass.{BeginsDescribed, IsPlaced, StepsDescribed, TellsEach, TellsNext, end_of, told_at_end}
use Rattle.split_on_files.specs.Steps.{Lanes, PlacesBehind, TellsAll, TellsDescribed, given_to, same_past, section_past, told_at_fault, told_behind_block}
use Rattle.split_on_files.specs.declared.capture_split.step.Step.{Step}
use Rattle.split_on_files.specs.declared.capture_split.step.Step.TheVariants as step
use Rattle.split_on_files.specs.declared.capture_split.taken.Taken.{Taken}
use Rattle.split_on_files.specs.declared.capture_split.taken.Taken.TheVariants as taken

-- ---- a block that stands in what is held

pub next_taken : (old new : Lanes) (before mid after : Gathered) (block : Block) (behind record_text : List ℕ) (t : Taken) (section : Option Order) (held : List ℕ) (size : ℕ)
    → section ≡ old.section.order → held ≡ mid.held → size ≡ 12 + length block.body → IsFilled old.section.order before mid filled.Next
    → AnotherBlock block behind ≡ next_block section held → TellsAll old new block t record_text
    → after ≡ record { held = drop size mid.held; supply = mid.supply } → TellsEach old new before after record_text (step.Block t)
next_taken old new before mid after block behind record_text t section held size section_is held_is size_is stands next tells after_is number =
    subst (λ (g : Gathered). TellsNext old new record_text number (text_left before) (text_left g) (step.Block t)) (sym after_is)
    (by_texts (text_left before) mid.supply.rest stands.0 stands.1)
  where
    here : AnotherBlock block behind ≡ next_block old.section.order mid.held
    here = next ∙ ap (λ s. next_block s held) section_is ∙ ap (next_block old.section.order) held_is

    dropped : drop size mid.held ≡ behind
    dropped = ap (λ n. drop n mid.held) size_is ∙ behind_block old.section.order mid.held block behind here

    told_now : (text rest : List ℕ) → StandsNext (next_block old.section.order mid.held) (next_block old.section.order text) rest
        → told_of old.section old.lanes number text ≡ told_behind (given_to number t record_text) (told_behind_block old new t number (drop size mid.held ++ rest))
    told_now text rest stand =
        let there : next_block old.section.order text ≡ AnotherBlock block (behind ++ rest) =
        subst (λ n. StandsNext n (next_block old.section.order text) rest) (sym here) stand in
        tells number text (behind ++ rest) (sym there)
        ∙ ap (λ x. told_behind (given_to number t record_text) (told_behind_block old new t number (x ++ rest))) (sym dropped)

    by_taken : (t : Taken) (text rest : List ℕ) → told_of old.section old.lanes number text
        ≡ told_behind (given_to number t record_text) (told_behind_block old new t number rest)
        → TellsNext old new record_text number (Some text) (Some rest) (step.Block t)
    by_taken taken.Nothing text rest is = is
    by_taken (taken.Described described) text rest is = is
    by_taken (taken.Packet of) text rest is = is
    by_taken (taken.Refused fault) text rest is = is

    unknown : (t : Taken) (x : Option (List ℕ)) → TellsNext old new record_text number None x (step.Block t)
    unknown taken.Nothing x = tt
    unknown (taken.Described described) x = tt
    unknown (taken.Packet of) x = tt
    unknown (taken.Refused fault) x = tt

    by_texts : (a b : Option (List ℕ)) → OfTexts (λ text rest. mid.held ++ rest ≡ text) a b
        → OfTexts (λ text rest. StandsNext (next_block old.section.order mid.held) (next_block old.section.order text) rest) a b
        → TellsNext old new record_text number a (option_map (λ rest. drop size mid.held ++ rest) b) (step.Block t)
    by_texts None b k s = unknown t (option_map (λ rest. drop size mid.held ++ rest) b)
    by_texts (Some text) None k s = absurd k
    by_texts (Some text) (Some rest) k s = by_taken t text (drop size mid.held ++ rest) (told_now text rest s)

pub next_described : (before mid : Gathered) (block : Block) (behind name : List ℕ) (t : Taken) (old new : Section) (section : Option Order) (held : List ℕ)
    → section ≡ old.order → held ≡ mid.held → IsFilled old.order before mid filled.Next → AnotherBlock block behind ≡ next_block section held
    → TellsDescribed old new block t name → StepsDescribed old new (text_left before) name (step.Block t)
next_described before mid block behind name t old new section held section_is held_is stands next described = by_taken t described
  where
    here : AnotherBlock block behind ≡ next_block old.order mid.held
    here = next ∙ ap (λ s. next_block s held) section_is ∙ ap (next_block old.order) held_is

    by_texts : (a b : Option (List ℕ)) (t : Taken) → TellsDescribed old new block t name → OfTexts (λ text rest. mid.held ++ rest ≡ text) a b
        → OfTexts (λ text rest. StandsNext (next_block old.order mid.held) (next_block old.order text) rest) a b
        → IfSome a (λ text. BeginsDescribed old new text t name)
    by_texts None b t n k s = tt
    by_texts (Some text) None t n k s = absurd k
    by_texts (Some text) (Some rest) t n k s =
        record { block = block; rest = behind ++ rest; next = sym (subst (λ x. StandsNext x (next_block old.order text) rest) (sym here) s); described = n }

    by_taken : (t : Taken) → TellsDescribed old new block t name → StepsDescribed old new (text_left before) name (step.Block t)
    by_taken taken.Nothing n = n
    by_taken (taken.Described described) n = by_texts (text_left before) mid.supply.rest (taken.Described described) n stands.0 stands.1
    by_taken (taken.Packet of) n = n
    by_taken (taken.Refused fault) n = n

-- the same of what is described
pub described_held : (before mid : Gathered) (name : List ℕ) (old new : Section) (section : Option Order) (result : Result Step Stop) → section ≡ old.order
    → IfOk result (λ s. (b : Gathered) → IsFilled old.order b mid filled.Next → StepsDescribed old new (text_left b) name s)
    → IsFilled section before mid filled.Next → IfOk result (StepsDescribed old new (text_left before) name)
described_held before mid name old new section (Err stop) same tells found = tt
described_held before mid name old new section (Ok s) same tells found = tells before (subst (λ o. IsFilled o before mid filled.Next) same found)

-- what was told of what is held is told of the text in front of the reads
pub next_held : (old new : Lanes) (before mid after : Gathered) (record_text : List ℕ) (section : Option Order) (result : Result Step Stop) → section ≡ old.section.order
    → IfOk result (λ s. (b : Gathered) → IsFilled old.section.order b mid filled.Next → TellsEach old new b after record_text s)
    → IsFilled section before mid filled.Next → IfOk result (TellsEach old new before after record_text)
next_held old new before mid after record_text section (Err stop) same tells found = tt
next_held old new before mid after record_text section (Ok s) same tells found = tells before (subst (λ o. IsFilled o before mid filled.Next) same found)

-- ---- how a text ends

told_ended : (old : Lanes) (number : ℕ) (text : List ℕ) (end : BlockEnd) → NoBlock end ≡ next_block old.section.order text
    → told_in old.section number None (lane_at old.lanes number) text
    ≡ told_reading (ended (context_of old.section number (lane_at old.lanes number)) (end_at (context_of old.section number (lane_at old.lanes number)) end))
told_ended old number text end is = ap told_reading (packets-end (Number number) (context_of old.section number (lane_at old.lanes number)) text end is)

tells_end : (old : Lanes) (number : ℕ) (text : List ℕ) (end : BlockEnd) (is_cut : Bool) → NoBlock end ≡ next_block old.section.order text
    → told_reading (ended (context_of old.section number (lane_at old.lanes number)) (end_at (context_of old.section number (lane_at old.lanes number)) end))
    ≡ told_end (lane_at old.lanes number).left_out (end_of is_cut)
    → told_of old.section old.lanes number text ≡ told_at_end (lane_at old.lanes number) is_cut (lane_at old.lanes number).fault
tells_end old number text end is_cut is ends = by_fault (lane_at old.lanes number).fault
  where
    by_fault : (f : Option PcapngFault) → told_in old.section number f (lane_at old.lanes number) text ≡ told_at_end (lane_at old.lanes number) is_cut f
    by_fault None = told_ended old number text end is ∙ ends
    by_fault (Some own) = refl

tells_refusal : (old : Lanes) (number : ℕ) (text : List ℕ) (fault : BlockFault) (told : PcapngFault) → NoBlock (Refused fault) ≡ next_block old.section.order text
    → told ≡ record { fault = fault; block = old.section.blocks + 1; offset = old.section.offset }
    → told_of old.section old.lanes number text ≡ told_at_fault (lane_at old.lanes number) told (lane_at old.lanes number).fault
tells_refusal old number text fault told is told_is = by_fault (lane_at old.lanes number).fault
  where
    by_fault : (f : Option PcapngFault) → told_in old.section number f (lane_at old.lanes number) text ≡ told_at_fault (lane_at old.lanes number) told f
    by_fault None = told_ended old number text (Refused fault) is ∙ ap (λ f. told_at_fault (lane_at old.lanes number) f None) (sym told_is)
    by_fault (Some own) = refl

-- where it stands in what is held
stood : (old : Lanes) (before mid : Gathered) (end : BlockEnd) (P : List ℕ → Type 0) (section : Option Order) (held : List ℕ)
    → section ≡ old.section.order → held ≡ mid.held → IsFilled old.section.order before mid filled.Next → NoBlock end ≡ next_block section held
    → ((text : List ℕ) → NoBlock end ≡ next_block old.section.order text → P text) → IfSome (text_left before) P
stood old before mid end P section held section_is held_is stands next is = by_texts (text_left before) mid.supply.rest stands.0 stands.1
  where
    here : NoBlock end ≡ next_block old.section.order mid.held
    here = next ∙ ap (λ s. next_block s held) section_is ∙ ap (next_block old.section.order) held_is

    by_texts : (a b : Option (List ℕ)) → OfTexts (λ text rest. mid.held ++ rest ≡ text) a b
        → OfTexts (λ text rest. StandsNext (next_block old.section.order mid.held) (next_block old.section.order text) rest) a b → IfSome a P
    by_texts None b k s = tt
    by_texts (Some text) None k s = absurd k
    by_texts (Some text) (Some rest) k s = is text (sym (subst (λ n. StandsNext n (next_block old.section.order text) rest) (sym here) s))

pub held_whole : (old : Lanes) (before mid : Gathered) (record_text : List ℕ) (section : Option Order) (held : List ℕ) → section ≡ old.section.order → held ≡ mid.held
    → IsFilled old.section.order before mid filled.Next → NoBlock AllRead ≡ next_block section held → TellsEach old old before mid record_text (step.Ended false)
held_whole old before mid record_text section held section_is held_is stands next number =
    stood old before mid AllRead (λ text. told_of old.section old.lanes number text ≡ told_at_end (lane_at old.lanes number) false (lane_at old.lanes number).fault)
    section held section_is held_is stands next (λ text is. tells_end old number text AllRead false is refl)

pub held_cut : (old : Lanes) (before mid : Gathered) (record_text : List ℕ) (section : Option Order) (held : List ℕ) → section ≡ old.section.order → held ≡ mid.held
    → IsFilled old.section.order before mid filled.Next → NoBlock CutShort ≡ next_block section held → TellsEach old old before mid record_text (step.Ended true)
held_cut old before mid record_text section held section_is held_is stands next number =
    stood old before mid CutShort (λ text. told_of old.section old.lanes number text ≡ told_at_end (lane_at old.lanes number) true (lane_at old.lanes number).fault)
    section held section_is held_is stands next (λ text is. tells_end old number text CutShort true is refl)

pub held_refused : (old : Lanes) (before mid : Gathered) (record_text : List ℕ) (section : Option Order) (held : List ℕ) (fault : BlockFault) (told : PcapngFault)
    → section ≡ old.section.order → held ≡ mid.held → IsFilled old.section.order before mid filled.Next → NoBlock (Refused fault) ≡ next_block section held
    → told ≡ record { fault = fault; block = old.section.blocks + 1; offset = old.section.offset }
    → TellsEach old old before mid record_text (step.Block (taken.Refused told))
held_refused old before mid record_text section held fault told section_is held_is stands next told_is number =
    stood old before mid (Refused fault) (λ text. told_of old.section old.lanes number text ≡ told_at_fault (lane_at old.lanes number) told (lane_at old.lanes number).fault)
    section held section_is held_is stands next (λ text is. tells_refusal old number text fault told is told_is)

-- ---- what was passed over

pub passed_cut : (old : Lanes) (before after : Gathered) (record_text : List ℕ) (section : Option Order) → section ≡ old.section.order → IsFilled section before after filled.Cut
    → TellsEach old old before after record_text (step.Ended true)
passed_cut old before after record_text section section_is is number = by_text (text_left before) is
  where
    by_text : (a : Option (List ℕ)) → IfSome a (λ text. next_block section text ≡ NoBlock CutShort)
        → IfSome a (λ text. told_of old.section old.lanes number text ≡ told_at_end (lane_at old.lanes number) true (lane_at old.lanes number).fault)
    by_text None i = tt
    by_text (Some text) i = tells_end old number text CutShort true (sym i ∙ ap (λ s. next_block s text) section_is) refl

pub passed_unequal : (old : Lanes) (before after : Gathered) (record_text : List ℕ) (section : Option Order) (told : PcapngFault) → section ≡ old.section.order
    → IsFilled section before after filled.Unequal → told ≡ record { fault = BadLength; block = old.section.blocks + 1; offset = old.section.offset }
    → TellsEach old old before after record_text (step.Block (taken.Refused told))
passed_unequal old before after record_text section told section_is is told_is number = by_text (text_left before) is
  where
    by_text : (a : Option (List ℕ)) → IfSome a (λ text. next_block section text ≡ NoBlock (Refused BadLength))
        → IfSome a (λ text. told_of old.section old.lanes number text ≡ told_at_fault (lane_at old.lanes number) told (lane_at old.lanes number).fault)
    by_text None i = tt
    by_text (Some text) i = tells_refusal old number text BadLength told (sym i ∙ ap (λ s. next_block s text) section_is) told_is

pub passed_block : (old new : Lanes) (before after : Gathered) (record_text : List ℕ) (section : Option Order) (size : ℕ) → section ≡ old.section.order
    → IsFilled section before after (filled.Passed size) → new ≡ same_past old size → TellsEach old new before after record_text (step.Block taken.Nothing)
passed_block old new before after record_text section size section_is is new_is number =
    subst (λ (l : Lanes). TellsNext old l record_text number (text_left before) (text_left after) (step.Block taken.Nothing)) (sym new_is)
    (by_texts (text_left before) after.supply.rest is)
  where
    one : (text rest : List ℕ) → IsPassedBlock section text (after.held ++ rest) size
        → told_of old.section old.lanes number text ≡ told_of (section_past old.section size) old.lanes number (after.held ++ rest)
    one text rest passed =
        tells_nothing old old.lanes passed.block number text (after.held ++ rest) (sym passed.next ∙ ap (λ s. next_block s text) section_is) refl
        (λ none. other_meaning (Number number) (only number 0 old.section.interfaces) (lane_at old.lanes number).last passed.block passed.other)
        ∙ ap (λ n. told_of (section_past old.section n) old.lanes number (after.held ++ rest)) passed.long

    by_texts : (a b : Option (List ℕ)) → OfTexts (λ text rest. IsPassedBlock section text (after.held ++ rest) size) a b
        → OfTexts (λ text rest. told_of old.section old.lanes number text ≡ told_behind [] (told_of (section_past old.section size) old.lanes number rest)) a
        (option_map (λ rest. after.held ++ rest) b)
    by_texts None b i = tt
    by_texts (Some text) None i = absurd i
    by_texts (Some text) (Some rest) i = one text rest i

-- ---- places

pub placed_behind : (old new : Lanes) (mid after : Gathered) (t : Taken) (size body : ℕ) → IsPlaced old mid → PlacesBehind old.section new.section (12 + body) t
    → size ≡ 12 + body → 12 + body ≤ length mid.held → after ≡ record { held = drop size mid.held; supply = mid.supply } → IsPlaced new after
placed_behind old new mid after t size body is places size_is fits after_is =
    subst (λ (g : Gathered). IsPlaced new g) (sym after_is) (by_taken t places)
  where
    left : length (drop size mid.held) ≡ length mid.held - size
    left = length-drop size mid.held

    grows : (new.section.blocks ≡ old.section.blocks + 1) × (new.section.offset ≡ old.section.offset + (12 + body))
        → IsPlaced new (record { held = drop size mid.held; supply = mid.supply })
    grows both =
        let blocks = both.0 in
        let offset = both.1 in
        record { blocks = omega (arith, blocks, offset, is.blocks); offset = omega (arith, offset, is.offset, left, size_is, fits) }

    by_taken : (t : Taken) → PlacesBehind old.section new.section (12 + body) t → IsPlaced new (record { held = drop size mid.held; supply = mid.supply })
    by_taken taken.Nothing p = grows p
    by_taken (taken.Described number) p = grows p
    by_taken (taken.Packet number) p = grows p
    by_taken (taken.Refused fault) p =
        let blocks = ap (λ (s : Section). s.blocks) p in
        let offset = ap (λ (s : Section). s.offset) p in
        record { blocks = omega (arith, blocks, offset, is.blocks); offset = omega (arith, offset, is.offset, left) }

pub placed_past : (old new : Lanes) (before after : Gathered) (size : ℕ) → IsPlaced old before → new ≡ same_past old size → 12 ≤ size
    → octets_left after + size ≤ octets_left before → IsPlaced new after
placed_past old new before after size is new_is some less =
    subst (λ (l : Lanes). IsPlaced l after) (sym new_is) (record { blocks = omega (arith, is.blocks, some); offset = omega (arith, is.offset, less) })
