-- Where each read below leads.
use Rattle.std.proofs.Common.{◌≡◌, ◌⊎◌, ◌∙◌, refl, sym, ap, subst, ℕ, ◌+◌, ◌-◌, ◌%◌, ◌^◌, ◌<◌, ◌≤◌, Bool, true, false, List, [], ◌∷◌, ◌++◌, length, take, drop, arith, append_assoc, append-nil, length-append, length-drop, length-take, Option, None, Some, inl, inr}
use Rattle.std.proofs.lemmas.List.{drop_all, length-take-le, take-append-drop, take_all, take_min}
use Rattle.std.specs.Io.KnownBytes.{Consumes, IsAtEnd}
use Rattle.std.specs.Prelude.{◌&&◌, nat_le}
use Rattle.pcap.specs.Style.{number_of}
use Rattle.pcap.specs.Written.{written_header}
use Rattle.pcap.specs.declared.text.style.Order.{Order}
use Rattle.pcap.specs.Supply.{Spends, Supply}
use Rattle.pcapng_input.proofs.Grown.{wanted-fits, wanted-front}
use Rattle.pcapng_input.proofs.Leading.{begins_pcapng, begins_plain, ends_cut, ends_faulty, ends_whole, lead, passes_some, stays}
use Rattle.pcapng_input.specs.Adapted.{Begun, Faulty, Over, Passing, Plain, Stand, Told, Within, behind_other, is_of_one, told_at, told_behind, told_reading}
use Rattle.pcapng_input.specs.Adapter.{Gathered, IsFetched, KeepsTold, told}
use Rattle.pcapng_input.specs.Block.{is_section}
use Rattle.pcapng_input.specs.Reading.{Context, block_fault_at, packets_in, start}
use Rattle.pcapng_input.specs.State.{IsLess, IsPart, IsPassed, IsPlaced, IsRest, IsSettled, IsSound, IsTaken, Leads, held_settled, state_settled, steps_of, steps_within, wanted_size}
use Rattle.pcapng_input.specs.declared.fault.BlockFault.TheVariants.{BadLength}
use Rattle.pcapng_input.specs.declared.fault.PcapngFault.{PcapngFault}
use Rattle.pcapng_input.specs.declared.interface.Selection.{Selection}
use Rattle.pcapng_input.specs.declared.settle.Settled.{Settled}
use Rattle.pcapng_input.specs.declared.settle.Settled.TheVariants as settled
use Rattle.pcapng_input.specs.declared.state.State.{State}
use Rattle.pcapng_input.specs.declared.state.State.TheVariants as state

-- ---- places

-- a place is in front of as much behind one more read
pub placed_more : (context : Context) (passed : ℕ) (old new : Gathered) → IsPlaced context passed old → length new.held ≤ 327680 → new.supply.reads < old.supply.reads
    → IsPlaced context passed new
placed_more context passed old new is fits fewer = record { blocks = is.blocks; offset = omega (arith, is.offset, fits, fewer) }

-- its numbers fit 64 bits
pub blocks_fit : (context : Context) (passed : ℕ) (below : Gathered) → IsPlaced context passed below → context.blocks + 1 < 2 ^ 64
blocks_fit context passed below is = omega (arith, is.blocks, is.offset)

pub offset_fits : (context : Context) (passed : ℕ) (below : Gathered) → IsPlaced context passed below → context.offset + passed + length below.held < 2 ^ 64
offset_fits context passed below is = omega (arith, is.offset)

-- behind more of the text, which isn't held any more
pub placed_behind : (context new : Context) (passed more : ℕ) (old below : Gathered) → IsPlaced context passed old → new.blocks ≤ new.offset
    → new.offset + more + length below.held ≤ context.offset + passed + length old.held → below.supply.reads ≤ old.supply.reads → IsPlaced new more below
placed_behind context new passed more old below is blocks offset fewer = record { blocks = blocks; offset = omega (arith, is.offset, offset, fewer) }

-- ---- the first octets

pub first_more : (selection : Selection) (context : Context) (old mid : Gathered) (wanted : ℕ) (is_more : Bool) (ready : List ℕ) → IsFetched wanted old mid is_more → ready ≡ []
    → Leads selection Begun old context ready mid state.Begun
first_more selection context old mid wanted is_more ready fetched none =
    lead selection Begun Begun old mid mid wanted is_more ready fetched refl (λ rest end. stays selection Begun ready (mid.held ++ rest) none)

pub first_pcapng : (selection : Selection) (context : Context) (old mid : Gathered) (wanted : ℕ) (is_more : Bool) (ready : List ℕ) → IsFetched wanted old mid is_more
    → is_of_one selection ≡ false → context ≡ start → ready ≡ written_header → (nat_le 4 (length mid.held) && is_section mid.held) ≡ true
    → Leads selection Begun old context ready mid state.Within
first_pcapng selection context old mid wanted is_more ready fetched all first header is =
    lead selection Begun (Within context) old mid mid wanted is_more ready fetched refl (λ rest end. begins_pcapng selection context ready mid.held rest all first header is)

pub first_plain : (selection : Selection) (context : Context) (old mid new : Gathered) (wanted : ℕ) (is_more : Bool) (ready : List ℕ) → IsFetched wanted old mid is_more
    → new ≡ record { held = []; supply = mid.supply } → is_of_one selection ≡ false → ready ≡ mid.held → (nat_le 4 (length mid.held) && is_section mid.held) ≡ false
    → (is_more ≡ true → 4 ≤ length mid.held) → Leads selection Begun old context ready new state.Plain
first_plain selection context old mid new wanted is_more ready fetched cleared all front is long =
    lead selection Begun Plain old mid new wanted is_more ready fetched (ap (λ (g : Gathered). g.supply.rest) cleared)
    (λ rest end. ap (λ t. told_behind ready (told_at selection Plain (t ++ rest))) (ap (λ (g : Gathered). g.held) cleared)
    ∙ begins_plain selection ready mid.held rest is_more all front is end long)

-- ---- a block

-- more of it was read
pub block_more : (selection : Selection) (context : Context) (old mid : Gathered) (most : ℕ) (is_more : Bool) (ready : List ℕ) → IsFetched most old mid is_more → ready ≡ []
    → Leads selection (Within context) old context ready mid state.Within
block_more selection context old mid most is_more ready fetched none =
    lead selection (Within context) (Within context) old mid mid most is_more ready fetched refl (λ rest end. stays selection (Within context) ready (mid.held ++ rest) none)

-- none was read
abbrev pub AtEnd : Bool → Gathered → Type 0
AtEnd is_more old = is_more ≡ false → IsAtEnd old.supply.rest

unread : (old : Gathered) (is_more : Bool) → AtEnd is_more old → IsFetched (length old.held) old old is_more
unread old is_more end = record {
  taken = [];
  held = sym (append-nil old.held);
  consumed = none old.supply.rest;
  fits = omega arith;
  end = λ e. (refl, end e);
}
  where
    none : (rest : Option (List ℕ)) → Consumes rest rest []
    none None = tt
    none (Some rest) = refl

-- what is told of what is held
still : (selection : Selection) (stand after : Stand) (old new : Gathered) (is_more : Bool) (ready : List ℕ) → AtEnd is_more old → new.supply.rest ≡ old.supply.rest
    → ((rest : List ℕ) → IsRest is_more rest → told_behind ready (told_at selection after (new.held ++ rest)) ≡ told_at selection stand (old.held ++ rest))
    → KeepsTold (told (record { selection = selection; ready = []; stand = stand; below = old }))
    (told (record { selection = selection; ready = ready; stand = after; below = new }))
still selection stand after old new is_more ready end same told_same =
    lead selection stand after old old new (length old.held) is_more ready (unread old is_more end) same told_same

pub unspent : (old new : Supply) → new ≡ old → Spends old new
unspent old new is =
    let calls : old.calls ≡ old.calls + (old.reads - old.reads) = omega arith in
    subst (Spends old) (sym is) (record { fewer = omega arith; calls = ap (λ n. n % 2 ^ 64) calls })

-- what is made of the first octets of what is held, by what that is
abbrev behind_of : Gathered → ℕ → Settled → Gathered
behind_of old octets s = record { held = held_settled old.held octets s; supply = old.supply }

-- nothing stands behind the octets of a block that isn't whole
abbrev pub IsRestOf : Bool → ℕ → Gathered → Settled → Type 0
IsRestOf is_more octets old s = (is_more ≡ false → drop octets old.held ≡ []) × ((order : Order) (size : ℕ) → s ≡ settled.Long order size → drop octets old.held ≡ [])

settled_as : (selection : Selection) (context new : Context) (old : Gathered) (octets : ℕ) (is_more : Bool) (ready : List ℕ) (s : Settled) → AtEnd is_more old
    → IsRestOf is_more octets old s → octets ≤ length old.held → IsSettled selection context new (take octets old.held) ready is_more s
    → Leads selection (Within context) old new ready (behind_of old octets s) (state_settled octets s)
settled_as selection context new old octets is_more ready s end none fits is = by_settled s none is
  where
    all : (rest : List ℕ) → take octets old.held ++ (drop octets old.held ++ rest) ≡ old.held ++ rest
    all rest = sym (append_assoc (take octets old.held) (drop octets old.held) rest) ∙ ap (λ t. t ++ rest) (take-append-drop octets old.held)

    told_all : (rest : List ℕ)
        → told_reading (packets_in selection context (take octets old.held ++ (drop octets old.held ++ rest))) ≡ told_reading (packets_in selection context (old.held ++ rest))
    told_all rest = ap (λ t. told_reading (packets_in selection context t)) (all rest)

    no_rest : (is_more ≡ false → drop octets old.held ≡ []) → (rest : List ℕ) → IsRest is_more rest → IsRest is_more (drop octets old.held ++ rest)
    no_rest none rest is_rest e = ap (λ t. t ++ rest) (none e) ∙ is_rest e

    same : ready ≡ [] → new ≡ context → (rest : List ℕ)
        → told_behind ready (told_at selection (Within new) (old.held ++ rest)) ≡ told_at selection (Within context) (old.held ++ rest)
    same empty first rest =
        ap (λ (c : Context). told_behind ready (told_at selection (Within c) (old.held ++ rest))) first ∙ stays selection (Within context) ready (old.held ++ rest) empty

    ended_with : List ℕ → Told
    ended_with t = record { octets = t; fault = None; left_out = context.left_out }

    by_settled : (s : Settled) → IsRestOf is_more octets old s → IsSettled selection context new (take octets old.held) ready is_more s
        → Leads selection (Within context) old new ready (behind_of old octets s) (state_settled octets s)
    by_settled settled.Unfinished none is =
        still selection (Within context) (Within new) old (behind_of old octets settled.Unfinished) is_more ready end refl (λ rest e. same is.0 is.1 rest)
    by_settled settled.NoMemory none is =
        still selection (Within context) (Within new) old (behind_of old octets settled.NoMemory) is_more ready end refl (λ rest e. same is.0 is.1 rest)
    by_settled settled.Taken none is =
        still selection (Within context) (Within new) old (behind_of old octets settled.Taken) is_more ready end refl
        (λ rest e. sym (is.3 (drop octets old.held ++ rest)) ∙ told_all rest)
    by_settled settled.Ended none is =
        still selection (Within context) (Over new.left_out) old (behind_of old octets settled.Ended) is_more ready end refl
        (λ rest e. ap (λ (c : Context). told_behind ready (told_at selection (Over c.left_out) (old.held ++ rest))) is.0 ∙ ap (λ t. ended_with t) (append-nil ready) ∙ sym (is.1 (drop octets old.held ++ rest) (no_rest none.0 rest e)) ∙ told_all rest)
    by_settled (settled.Refused fault) none is =
        still selection (Within context) (Faulty new.left_out fault) old (behind_of old octets (settled.Refused fault)) is_more ready end refl
        (λ rest e. ap (λ t. told_behind t (told_at selection (Faulty new.left_out fault) (old.held ++ rest))) is.0
        ∙ ap (λ (c : Context). told_at selection (Faulty c.left_out fault) (old.held ++ rest)) is.1
        ∙ sym (is.2 (drop octets old.held ++ rest) (no_rest none.0 rest e)) ∙ told_all rest)
    by_settled (settled.Long order size) none is =
        let left = size - (4 + octets) in
        let part = take octets old.held in
        let long = length-take-le octets old.held fits in
        still selection (Within context) (Passing new order size left) old (behind_of old octets (settled.Long order size)) is_more ready end refl
        (λ rest e. ap (λ (c : Context). told_behind ready (told_at selection (Passing c order size left) rest)) is.1
        ∙ passes_some selection context order size (size - 4) left ready part rest is.0 (omega (arith, is.2)) (omega (arith, is.2, long))
        ∙ sym (is.5 rest)
        ∙ ap (λ t. told_reading (packets_in selection context (part ++ (t ++ rest)))) (sym (none.1 order size refl))
        ∙ told_all rest)

pub settled_leads : (selection : Selection) (context new : Context) (old after : Gathered) (octets : ℕ) (is_more : Bool) (ready : List ℕ) (s : Settled) (next : State)
    → AtEnd is_more old → IsRestOf is_more octets old s → octets ≤ length old.held → IsSettled selection context new (take octets old.held) ready is_more s
    → after ≡ record { held = held_settled old.held octets s; supply = old.supply } → next ≡ state_settled octets s
    → Leads selection (Within context) old new ready after next
settled_leads selection context new old after octets is_more ready s next end none fits is after_is next_is =
    subst (λ (g : Gathered). Leads selection (Within context) old new ready g next) (sym after_is)
    (subst (λ (x : State). Leads selection (Within context) old new ready (behind_of old octets s) x) (sym next_is)
    (settled_as selection context new old octets is_more ready s end none fits is))

-- it keeps to its state
sound_as : (selection : Selection) (context new : Context) (old : Gathered) (octets : ℕ) (is_more : Bool) (ready : List ℕ) (s : Settled) → octets ≤ length old.held
    → IsPlaced context 0 old → IsSettled selection context new (take octets old.held) ready is_more s → IsSound (state_settled octets s) new (behind_of old octets s)
sound_as selection context new old octets is_more ready settled.Unfinished fits placed is = subst (λ (c : Context). IsPlaced c 0 old) (sym is.1) placed
sound_as selection context new old octets is_more ready settled.NoMemory fits placed is = tt
sound_as selection context new old octets is_more ready settled.Ended fits placed is = tt
sound_as selection context new old octets is_more ready (settled.Refused fault) fits placed is = tt
sound_as selection context new old octets is_more ready settled.Taken fits placed is =
    let part = length-take-le octets old.held fits in
    let blocks = is.0 in
    let more = is.1 in
    let offset = is.2 in
    record { blocks = omega (arith, placed.blocks, blocks, more); offset = omega (arith, placed.offset, offset, part, fits, length-drop octets old.held) }
sound_as selection context new old octets is_more ready (settled.Long order size) fits placed is =
    let part = length-take-le octets old.held fits in
    let long = is.2 in
    let blocks : new.blocks ≡ context.blocks = ap (λ (c : Context). c.blocks) is.1 in
    let offset : new.offset ≡ context.offset = ap (λ (c : Context). c.offset) is.1 in
    record {
      fits = omega (arith, long, part);
      part = omega arith;
      none = λ some. refl;
      placed = record { blocks = omega (arith, placed.blocks, blocks, offset); offset = omega (arith, placed.offset, offset, long, part, fits) };
    }

pub settled_sound : (selection : Selection) (context new : Context) (old after : Gathered) (octets : ℕ) (is_more : Bool) (ready : List ℕ) (s : Settled) (next : State)
    → octets ≤ length old.held → IsPlaced context 0 old → IsSettled selection context new (take octets old.held) ready is_more s
    → after ≡ record { held = held_settled old.held octets s; supply = old.supply } → next ≡ state_settled octets s → IsSound next new after
settled_sound selection context new old after octets is_more ready s next fits placed is after_is next_is =
    subst (λ (g : Gathered). IsSound next new g) (sym after_is)
    (subst (λ (x : State). IsSound x new (behind_of old octets s)) (sym next_is) (sound_as selection context new old octets is_more ready s fits placed is))

taken_as : (selection : Selection) (octets : ℕ) (s : Settled) → IsTaken selection (state_settled octets s)
taken_as selection octets settled.Unfinished = tt
taken_as selection octets (settled.Long order size) = tt
taken_as selection octets settled.Taken = tt
taken_as selection octets settled.Ended = tt
taken_as selection octets (settled.Refused fault) = tt
taken_as selection octets settled.NoMemory = tt

pub settled_taken : (selection : Selection) (octets : ℕ) (s : Settled) (next : State) → next ≡ state_settled octets s → IsTaken selection next
settled_taken selection octets s next is = subst (λ (x : State). IsTaken selection x) (sym is) (taken_as selection octets s)

-- it leaves no more steps than there were, and fewer where it isn't unfinished
steps_as : (selection : Selection) (context new : Context) (old : Gathered) (octets : ℕ) (is_more : Bool) (ready : List ℕ) (s : Settled) → octets ≤ length old.held
    → IsSettled selection context new (take octets old.held) ready is_more s → s ≡ settled.Unfinished ⊎ (steps_of (state_settled octets s) (behind_of old octets s) < steps_within old)
steps_as selection context new old octets is_more ready settled.Unfinished fits is = inl refl
steps_as selection context new old octets is_more ready settled.NoMemory fits is = inr (omega arith)
steps_as selection context new old octets is_more ready settled.Ended fits is = inr (omega arith)
steps_as selection context new old octets is_more ready (settled.Refused fault) fits is = inr (omega arith)
steps_as selection context new old octets is_more ready settled.Taken fits is =
    let part = length-take-le octets old.held fits in
    let more = is.1 in
    let offset = is.2 in
    inr (omega (arith, more, offset, part, fits, length-drop octets old.held))
steps_as selection context new old octets is_more ready (settled.Long order size) fits is =
    let part = length-take-le octets old.held fits in
    let some = is.3 in
    inr (omega (arith, some, part, fits))

pub settled_less : (selection : Selection) (context new : Context) (old after : Gathered) (octets : ℕ) (is_more : Bool) (ready : List ℕ) (s : Settled) (next : State)
    → octets ≤ length old.held → IsSettled selection context new (take octets old.held) ready is_more s → (s ≡ settled.Unfinished → ⊥)
    → after ≡ record { held = held_settled old.held octets s; supply = old.supply } → next ≡ state_settled octets s → IsLess state.Within old next after
settled_less selection context new old after octets is_more ready s next fits is other after_is next_is =
    subst (λ (g : Gathered). steps_of next g < steps_within old) (sym after_is)
    (subst (λ (x : State). steps_of x (behind_of old octets s) < steps_within old) (sym next_is)
    (elim (steps_as selection context new old octets is_more ready s fits is) [
      | inl same ↦ absurd (other same)
      | inr less ↦ less
    ]))

pub settled_most : (selection : Selection) (context new : Context) (old mid after : Gathered) (octets : ℕ) (is_more : Bool) (ready : List ℕ) (s : Settled) (next : State)
    → octets ≤ length mid.held → length mid.held ≤ 327680 → mid.supply.reads < old.supply.reads → IsSettled selection context new (take octets mid.held) ready is_more s
    → after ≡ record { held = held_settled mid.held octets s; supply = mid.supply } → next ≡ state_settled octets s → IsLess state.Within old next after
settled_most selection context new old mid after octets is_more ready s next fits room fewer is after_is next_is =
    subst (λ (g : Gathered). steps_of next g < steps_within old) (sym after_is)
    (subst (λ (x : State). steps_of x (behind_of mid octets s) < steps_within old) (sym next_is)
    (elim (steps_as selection context new mid octets is_more ready s fits is) [
      | inl same ↦ subst (λ (x : Settled). steps_of (state_settled octets x) (behind_of mid octets x) < steps_within old) (sym same) (omega (arith, room, fewer))
      | inr less ↦ omega (arith, less, room, fewer)
    ]))

-- ---- the first octets that are wanted of what is held

-- what they are
pub part_is : (section told : Option Order) (held was part : List ℕ) (wanted : ℕ) → told ≡ section → was ≡ held → wanted ≡ wanted_size told was → part ≡ take wanted was
    → part ≡ take (wanted_size section held) held
part_is section told held was part wanted told_is was_is wanted_is is =
    is ∙ ap (λ n. take n was) (wanted_is ∙ ap (λ o. wanted_size o was) told_is ∙ ap (wanted_size section) was_is) ∙ ap (take (wanted_size section held)) was_is

-- they are no more than are wanted of them
pub part_fits : (section : Option Order) (held part : List ℕ) → part ≡ take (wanted_size section held) held → length part ≤ wanted_size section part
part_fits section held part is = subst (λ t. length t ≤ wanted_size section t) (sym is) (wanted-fits section held)

pub part_front : (section : Option Order) (held part : List ℕ) → part ≡ take (wanted_size section held) held → take (length part) held ≡ part
part_front section held part is =
    ap (λ t. take (length t) held) is ∙ ap (λ n. take n held) (length-take (wanted_size section held) held) ∙ take_min (wanted_size section held) held ∙ sym is

pub part_within : (section : Option Order) (held part : List ℕ) → part ≡ take (wanted_size section held) held → length part ≤ length held
part_within section held part is = omega (arith, ap length is, length-take (wanted_size section held) held)

-- where they are fewer, they are all
part_all : (section : Option Order) (held part : List ℕ) → part ≡ take (wanted_size section held) held → length part < wanted_size section part → length held ≤ wanted_size section held
part_all section held part is few = wanted-front section held (subst (λ t. length t < wanted_size section t) is few)

pub part_whole : (section : Option Order) (held part : List ℕ) → part ≡ take (wanted_size section held) held → IsPart section part → IsPart section held
part_whole section held part is few = subst (IsPart section) (is ∙ take_all (wanted_size section held) held (part_all section held part is few.part)) few

pub part_rest : (section : Option Order) (held part : List ℕ) → part ≡ take (wanted_size section held) held → length part < wanted_size section part → drop (length part) held ≡ []
part_rest section held part is few =
    let all = part_all section held part is few in
    drop_all (length part) held (omega (arith, ap length is, length-take (wanted_size section held) held, all))

-- nothing stands behind a block that is passed over
pub long_rest : (selection : Selection) (context new : Context) (held part ready : List ℕ) (s : Settled) → part ≡ take (wanted_size context.order held) held
    → IsSettled selection context new part ready true s → (order : Order) (size : ℕ) → s ≡ settled.Long order size → drop (length part) held ≡ []
long_rest selection context new held part ready s is settled_is order size long =
    part_rest context.order held part is (subst (IsSettled selection context new part ready true) long settled_is).4

-- ---- a block that is passed over

pub body_cut : (selection : Selection) (context : Context) (old mid : Gathered) (wanted : ℕ) (is_more : Bool) (ready : List ℕ) (order : Order) (size left : ℕ)
    → IsFetched wanted old mid is_more → is_more ≡ false → ready ≡ 0 ∷ [] → length old.held < left + 4
    → Leads selection (Passing context order size left) old context ready mid state.Over
body_cut selection context old mid wanted is_more ready order size left fetched none cut part =
    lead selection (Passing context order size left) (Over context.left_out) old mid mid wanted is_more ready fetched refl
    (λ rest end. ends_cut selection context order size left ready mid.held rest is_more none cut less end)
  where
    less : length mid.held < left + 4
    less = omega (arith, part, ap length fetched.held, length-append old.held fetched.taken, ap length (fetched.end none).0)

pub body_passed : (selection : Selection) (context : Context) (old mid new : Gathered) (wanted : ℕ) (is_more : Bool) (ready : List ℕ) (order : Order) (size left less : ℕ)
    → IsFetched wanted old mid is_more → new ≡ record { held = []; supply = mid.supply } → ready ≡ [] → length mid.held ≤ left → less ≡ left - length mid.held
    → Leads selection (Passing context order size left) old context ready new (state.Passing order size less)
body_passed selection context old mid new wanted is_more ready order size left less fetched cleared none fits is =
    lead selection (Passing context order size left) (Passing context order size less) old mid new wanted is_more ready fetched (ap (λ (g : Gathered). g.supply.rest) cleared)
    (λ rest end. ap (λ t. told_behind ready (told_at selection (Passing context order size less) (t ++ rest))) (ap (λ (g : Gathered). g.held) cleared)
    ∙ passes_some selection context order size left less ready mid.held rest none fits is)

pub end_more : (selection : Selection) (context new : Context) (old mid : Gathered) (wanted : ℕ) (is_more : Bool) (ready : List ℕ) (order : Order) (size : ℕ)
    → IsFetched wanted old mid is_more → ready ≡ [] → new ≡ context → Leads selection (Passing context order size 0) old new ready mid (state.Passing order size 0)
end_more selection context new old mid wanted is_more ready order size fetched none same =
    lead selection (Passing context order size 0) (Passing new order size 0) old mid mid wanted is_more ready fetched refl
    (λ rest end. ap (λ (c : Context). told_behind ready (told_at selection (Passing c order size 0) (mid.held ++ rest))) same
    ∙ stays selection (Passing context order size 0) ready (mid.held ++ rest) none)

pub end_faulty : (selection : Selection) (context new : Context) (old mid : Gathered) (wanted : ℕ) (is_more : Bool) (ready : List ℕ) (order : Order) (size : ℕ) (fault : PcapngFault)
    → new ≡ context → IsFetched wanted old mid is_more → ready ≡ [] → 4 ≤ length mid.held → (number_of order 4 mid.held ≡ size → ⊥) → fault ≡ block_fault_at context BadLength
    → Leads selection (Passing context order size 0) old new ready mid (state.Faulty fault)
end_faulty selection context new old mid wanted is_more ready order size fault same fetched none four other is =
    lead selection (Passing context order size 0) (Faulty new.left_out fault) old mid mid wanted is_more ready fetched refl
    (λ rest end. ap (λ (c : Context). told_behind ready (told_at selection (Faulty c.left_out fault) (mid.held ++ rest))) same
    ∙ ends_faulty selection context order size fault ready mid.held rest (mid.held ++ rest) none four other is)

pub end_whole : (selection : Selection) (context after : Context) (old mid new : Gathered) (wanted : ℕ) (is_more : Bool) (ready : List ℕ) (order : Order) (size : ℕ)
    → IsFetched wanted old mid is_more → new ≡ record { held = []; supply = mid.supply } → ready ≡ [] → length mid.held ≡ 4 → number_of order 4 mid.held ≡ size
    → after ≡ behind_other context size → Leads selection (Passing context order size 0) old after ready new state.Within
end_whole selection context after old mid new wanted is_more ready order size fetched cleared none four same is =
    lead selection (Passing context order size 0) (Within after) old mid new wanted is_more ready fetched (ap (λ (g : Gathered). g.supply.rest) cleared)
    (λ rest end. ap (λ t. told_behind ready (told_at selection (Within after) (t ++ rest))) (ap (λ (g : Gathered). g.held) cleared)
    ∙ ends_whole selection context after order size ready mid.held rest none four same is)

-- ---- places behind a block

pub closed_placed : (context after : Context) (size : ℕ) (old mid new : Gathered) → IsPassed context size 0 old → mid.supply.reads < old.supply.reads
    → new ≡ record { held = []; supply = mid.supply } → after ≡ behind_other context size → IsPlaced after 0 new
closed_placed context after size old mid new is fewer cleared after_is =
    let none : length new.held ≡ 0 = ap (λ (g : Gathered). length g.held) cleared in
    let reads : new.supply.reads ≡ mid.supply.reads = ap (λ (g : Gathered). g.supply.reads) cleared in
    let blocks : after.blocks ≡ context.blocks + 1 = ap (λ (c : Context). c.blocks) after_is in
    let offset : after.offset ≡ context.offset + size = ap (λ (c : Context). c.offset) after_is in
    record { blocks = omega (arith, is.placed.blocks, is.fits, blocks, offset); offset = omega (arith, is.placed.offset, is.fits, none, reads, offset, fewer) }

-- ---- a new input

start_placed : (context : Context) (below : Gathered) → context ≡ start → below.held ≡ [] → below.supply.reads ≤ 35184372088832 → IsPlaced context 0 below
start_placed context below first held few =
    let blocks : context.blocks ≡ 0 = ap (λ (c : Context). c.blocks) first in
    let offset : context.offset ≡ 0 = ap (λ (c : Context). c.offset) first in
    record { blocks = omega (arith, blocks); offset = omega (arith, offset, few, ap length held) }

pub sound_within : (context : Context) (below : Gathered) → context ≡ start → below.held ≡ [] → below.supply.reads ≤ 35184372088832 → IsSound state.Within context below
sound_within context below first held few = start_placed context below first held few

pub sound_begun : (context : Context) (below : Gathered) → context ≡ start → below.held ≡ [] → below.supply.reads ≤ 35184372088832 → IsSound state.Begun context below
sound_begun context below first held few = (omega (arith, ap length held), first, start_placed context below first held few)
