-- What one read below leads to: what is told stays.
use Rattle.std.proofs.Common.{◌≡◌, ◌∙◌, refl, sym, ap, subst, ℕ, ◌+◌, ◌-◌, ◌<◌, ◌≤◌, Bool, true, false, List, [], ◌∷◌, ◌++◌, length, drop, arith, append_assoc, append-nil, length-append, length-drop, Option, None, Some}
use Rattle.std.specs.Prelude.{◌==◌, ◌&&◌, ◌||◌, nat_le, nat_lt, option_map, if◌then◌else◌}
use Rattle.std.proofs.lemmas.Bool.{and_from, eq-eqb, le-leb, le-ltb, leb-true, lt-ltb, ne_eqb}
use Rattle.std.proofs.lemmas.List.{drop-drop, drop_at}
use Rattle.std.specs.Io.KnownBytes.{Consumes, IsAtEnd}
use Rattle.pcap.specs.Style.{number_of}
use Rattle.pcap.specs.Written.{written_header}
use Rattle.pcap.specs.declared.text.style.Order.{Order}
use Rattle.pcapng_input.proofs.Grown.{four_front, is_section-front}
use Rattle.pcapng_input.specs.Adapted.{Begun, Faulty, Over, Passing, Plain, Stand, Told, Within, behind_other, is_adapted, is_of_one, packets_closing, told_at, told_behind, told_packets, told_plain, told_reading, told_text}
use Rattle.pcapng_input.specs.Adapter.{Adapter, Gathered, IsFetched, KeepsTold, told, told_from}
use Rattle.pcapng_input.specs.Block.{is_section}
use Rattle.pcapng_input.specs.Reading.{Context, EndsCut, EndsFaulty, PacketReading, block_fault_at, ended, packets_in, start}
use Rattle.pcapng_input.specs.State.{IsRest}
use Rattle.pcapng_input.specs.declared.fault.BlockFault.TheVariants.{BadLength}
use Rattle.pcapng_input.specs.declared.fault.PcapngFault.{PcapngFault}
use Rattle.pcapng_input.specs.declared.interface.Selection.{Selection}

by_rest : (a b : Adapter) (taken : List ℕ) (is_more : Bool) (x y : Option (List ℕ)) → Consumes x y taken → (is_more ≡ false → IsAtEnd y)
    → ((rest : List ℕ) → IsRest is_more rest → told_from b rest ≡ told_from a (taken ++ rest)) → KeepsTold (option_map (told_from a) x) (option_map (told_from b) y)
by_rest a b taken is_more None y consumed end same = tt
by_rest a b taken is_more (Some x) None consumed end same = absurd consumed
by_rest a b taken is_more (Some x) (Some y) consumed end same = same y end ∙ ap (told_from a) (sym consumed)

-- what was told in front of a read is told behind it
pub lead : (selection : Selection) (stand after : Stand) (old mid new : Gathered) (wanted : ℕ) (is_more : Bool) (ready : List ℕ)
    → IsFetched wanted old mid is_more → new.supply.rest ≡ mid.supply.rest
    → ((rest : List ℕ) → IsRest is_more rest → told_behind ready (told_at selection after (new.held ++ rest)) ≡ told_at selection stand (mid.held ++ rest))
    → KeepsTold (told (record { selection = selection; ready = []; stand = stand; below = old }))
    (told (record { selection = selection; ready = ready; stand = after; below = new }))
lead selection stand after old mid new wanted is_more ready fetched same told_same =
    by_rest (record { selection = selection; ready = []; stand = stand; below = old }) (record { selection = selection; ready = ready; stand = after; below = new })
    fetched.taken is_more old.supply.rest new.supply.rest
    (subst (λ r. Consumes old.supply.rest r fetched.taken) (sym same) fetched.consumed)
    (λ none. subst IsAtEnd (sym same) (fetched.end none).1)
    (λ rest is_rest. told_same rest is_rest ∙ ap (told_at selection stand) (ap (λ t. t ++ rest) fetched.held ∙ append_assoc old.held fetched.taken rest))

-- nothing is ready, and it stands where it stood
pub stays : (selection : Selection) (stand : Stand) (ready : List ℕ) (text : List ℕ) → ready ≡ [] → told_behind ready (told_at selection stand text) ≡ told_at selection stand text
stays selection stand ready text is = ap (λ t. told_behind t (told_at selection stand text)) is

-- ---- the first octets

abbrev plain : List ℕ → Told
plain text = told_plain text

pub begins_pcapng : (selection : Selection) (context : Context) (ready held rest : List ℕ) → is_of_one selection ≡ false → context ≡ start → ready ≡ written_header
    → (nat_le 4 (length held) && is_section held) ≡ true
    → told_behind ready (told_at selection (Within context) (held ++ rest)) ≡ told_at selection Begun (held ++ rest)
unfolding told_text
begins_pcapng selection context ready held rest all first header is =
    let long = and_first _ _ is in
    let tests : is_adapted selection (held ++ rest) ≡ true = by_all (is_of_one selection) all (nat_le 4 (length (held ++ rest)) && is_section (held ++ rest))
    (both _ _ (le-leb 4 (length (held ++ rest)) (omega (arith, four_of _ long, length-append held rest)))
    (is_section-front held rest (four_of _ long) ∙ and_second _ _ is)) in
    ap (λ t. told_behind t (told_reading (packets_in selection context (held ++ rest)))) header
    ∙ ap (λ (c : Context). told_behind written_header (told_reading (packets_in selection c (held ++ rest)))) first
    ∙ sym (ap (λ b. if b then told_packets selection (held ++ rest) else plain (held ++ rest)) tests)
  where
    and_first : (a b : Bool) → (a && b) ≡ true → a ≡ true
    and_first true b e = refl
    and_first false b e = absurd cc

    and_second : (a b : Bool) → (a && b) ≡ true → b ≡ true
    and_second true b e = e
    and_second false b e = absurd cc

    four_of : (n : ℕ) → nat_le 4 n ≡ true → 4 ≤ n
    four_of n e = leb-true 4 n e

    both : (a b : Bool) → a ≡ true → b ≡ true → (a && b) ≡ true
    both a b p q = and_from a b p q

    by_all : (one : Bool) → one ≡ false → (b : Bool) → b ≡ true → (one || b) ≡ true
    by_all true e b is = refl
    by_all false e b is = is

pub begins_plain : (selection : Selection) (ready held rest : List ℕ) (is_more : Bool) → is_of_one selection ≡ false → ready ≡ held
    → (nat_le 4 (length held) && is_section held) ≡ false → (is_more ≡ false → rest ≡ []) → (is_more ≡ true → 4 ≤ length held)
    → told_behind ready (told_at selection Plain rest) ≡ told_at selection Begun (held ++ rest)
unfolding told_text
begins_plain selection ready held rest is_more all front is end long =
    ap (λ t. plain (t ++ rest)) front
    ∙ sym (ap (λ b. if b then told_packets selection (held ++ rest) else plain (held ++ rest)) (by_all (is_of_one selection) all (by_more is_more refl)))
  where
    by_all : (one : Bool) → one ≡ false → (nat_le 4 (length (held ++ rest)) && is_section (held ++ rest)) ≡ false
        → (one || (nat_le 4 (length (held ++ rest)) && is_section (held ++ rest))) ≡ false
    by_all true e t = absurd cc
    by_all false e t = t

    by_more : (b : Bool) → is_more ≡ b → (nat_le 4 (length (held ++ rest)) && is_section (held ++ rest)) ≡ false
    by_more false e =
        let same : held ++ rest ≡ held = ap (λ t. held ++ t) (end e) ∙ append-nil held in
        ap (λ t. nat_le 4 (length t) && is_section t) same ∙ is
    by_more true e =
        let four = long e in
        ap (λ b. nat_le 4 (length (held ++ rest)) && b) (is_section-front held rest four)
        ∙ ap (λ b. b && is_section held) (le-leb 4 (length (held ++ rest)) (omega (arith, four, length-append held rest)) ∙ sym (le-leb 4 (length held) four))
        ∙ is

-- ---- a block that is passed over

abbrev closing : Selection → Context → Order → ℕ → List ℕ → Bool → Bool → PacketReading
closing selection context order size text short same =
    if short then ended context EndsCut
    else if same then packets_in selection (behind_other context size) (drop 4 text)
    else ended context (EndsFaulty (block_fault_at context BadLength))

-- a text that ends in front of the second length is cut
pub ends_cut : (selection : Selection) (context : Context) (order : Order) (size left : ℕ) (ready held rest : List ℕ) (is_more : Bool) → is_more ≡ false → ready ≡ 0 ∷ []
    → length held < left + 4 → IsRest is_more rest
    → told_behind ready (told_at selection (Over context.left_out) (held ++ rest)) ≡ told_at selection (Passing context order size left) (held ++ rest)
ends_cut selection context order size left ready held rest is_more none cut part end =
    let same : held ++ rest ≡ held = ap (λ t. held ++ t) (end none) ∙ append-nil held in
    let tail = drop left (held ++ rest) in
    let short : nat_lt (length tail) 4 ≡ true = lt-ltb (length tail) 4 (omega (arith, length-drop left (held ++ rest), ap length same)) in
    ap (λ t. told_behind t (told_at selection (Over context.left_out) (held ++ rest))) cut
    ∙ sym (ap (λ b. told_reading (closing selection context order size tail b (number_of order 4 tail == size))) short)

-- octets in front of the second length are passed over
pub passes_some : (selection : Selection) (context : Context) (order : Order) (size left less : ℕ) (ready held rest : List ℕ) → ready ≡ [] → length held ≤ left → less ≡ left - length held
    → told_behind ready (told_at selection (Passing context order size less) rest) ≡ told_at selection (Passing context order size left) (held ++ rest)
passes_some selection context order size left less ready held rest none fits is =
    let first : drop (length held) (held ++ rest) ≡ rest = drop_at held rest (length held) refl in
    let all : drop less rest ≡ drop left (held ++ rest) =
    ap (drop less) (sym first) ∙ drop-drop less (length held) (held ++ rest) ∙ ap (λ n. drop n (held ++ rest)) (let e : length held + less ≡ left = omega (arith, fits, is) in e) in
    ap (λ t. told_behind t (told_at selection (Passing context order size less) rest)) none
    ∙ ap (λ t. told_reading (packets_closing selection context order size t)) all

-- another second length is a fault
pub ends_faulty : (selection : Selection) (context : Context) (order : Order) (size : ℕ) (fault : PcapngFault) (ready held rest more : List ℕ) → ready ≡ [] → 4 ≤ length held
    → (number_of order 4 held ≡ size → ⊥) → fault ≡ block_fault_at context BadLength
    → told_behind ready (told_at selection (Faulty context.left_out fault) more) ≡ told_at selection (Passing context order size 0) (held ++ rest)
ends_faulty selection context order size fault ready held rest more none four other is =
    let text = held ++ rest in
    let whole : nat_lt (length text) 4 ≡ false = le-ltb (length text) 4 (omega (arith, four, length-append held rest)) in
    let differs : (number_of order 4 text == size) ≡ false = ne_eqb (number_of order 4 text) size (λ e. other (sym (four_front order held rest four) ∙ e)) in
    ap (λ t. told_behind t (told_at selection (Faulty context.left_out fault) more)) none ∙ ap (λ f. told_at selection (Faulty context.left_out f) more) is
    ∙ sym (ap (λ b. told_reading (closing selection context order size text b (number_of order 4 text == size))) whole
    ∙ ap (λ b. told_reading (closing selection context order size text false b)) differs)

-- behind the same second length stands the next block
pub ends_whole : (selection : Selection) (context new : Context) (order : Order) (size : ℕ) (ready held rest : List ℕ) → ready ≡ [] → length held ≡ 4
    → number_of order 4 held ≡ size → new ≡ behind_other context size
    → told_behind ready (told_at selection (Within new) rest) ≡ told_at selection (Passing context order size 0) (held ++ rest)
ends_whole selection context new order size ready held rest none four same is =
    let text = held ++ rest in
    let whole : nat_lt (length text) 4 ≡ false = le-ltb (length text) 4 (omega (arith, four, length-append held rest)) in
    let equal : (number_of order 4 text == size) ≡ true = eq-eqb (number_of order 4 text) size (four_front order held rest (omega (arith, four)) ∙ same) in
    ap (λ t. told_behind t (told_at selection (Within new) rest)) none
    ∙ ap (λ (c : Context). told_reading (packets_in selection c rest)) is
    ∙ ap (λ t. told_reading (packets_in selection (behind_other context size) t)) (sym (drop_at held rest 4 four))
    ∙ sym (ap (λ b. told_reading (closing selection context order size text b (number_of order 4 text == size))) whole
    ∙ ap (λ b. told_reading (closing selection context order size text false b)) equal)
