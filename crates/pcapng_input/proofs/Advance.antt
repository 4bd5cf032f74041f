-- How the next block of an input comes whole into the room.
use Rattle.std.proofs.Common.{◌≡◌, ◌∙◌, refl, sym, ap, subst, ℕ, ◌+◌, ◌-◌, ◌%◌, ◌<◌, ◌≤◌, Bool, true, false, List, [], ◌++◌, length, take, drop, arith, append-nil, append_assoc, length-append, length-drop, length-take, Option, None, Some, Result, Ok, Err}
use Rattle.std.specs.Prelude.{◌==◌, ◌&&◌, not, nat_lt, option_map, IfOk, IfSome}
use Rattle.std.specs.Io.KnownBytes.{Consumes, IsAtEnd}
use Rattle.std.proofs.lemmas.Bool.{eq-eqb, eqb-true, le-ltb, lt-ltb, not-false, or_parts}
use Rattle.std.proofs.lemmas.List.{drop-drop, drop_at}
use Rattle.pcap.specs.Style.{number_of}
use Rattle.pcap.specs.declared.text.style.Order.{Order}
use Rattle.pcapng_input.proofs.Grown.{Grows, IsCutBlock, by_checked, by_order_of, checked, cut_block, four_front, grown, not_all_read, number_of-front, order_at-front, twelve}
use Rattle.pcapng_input.proofs.Passing.{and_no}
use Rattle.pcapng_input.specs.Adapter.{Gathered, IsFetched}
use Rattle.pcapng_input.specs.Block.{AllRead, AnotherBlock, CutShort, NextBlock, NoBlock, Refused, block_at, block_by_length, block_by_order, is_read, longest_block, next_block, order_at}
use Rattle.pcapng_input.specs.Filled.{HasFewer, IsBehind, IsFilled, IsLongBlock, IsNumberNext, IsPassedBlock, IsPassedOver, IsUnequal, KeepsText, OfTexts, PassesBlock, PassesBody, PassesOver, StandsNext, octets_left, text_left}
use Rattle.pcapng_input.specs.Seen.{block_seen}
use Rattle.pcapng_input.specs.declared.block.NextBlock.{NextBlock as FoundBlock}
use Rattle.pcapng_input.specs.declared.block.NextBlock.TheVariants as found
use Rattle.pcapng_input.specs.declared.fault.BlockFault.TheVariants.{BadLength}
use Rattle.pcapng_input.specs.declared.filling.Filled.{Filled}
use Rattle.pcapng_input.specs.declared.filling.Filled.TheVariants as filled
use Rattle.pcapng_input.specs.declared.stop.Stop.{Stop}

-- ---- what is lacking

-- what 12 octets or more tell, they tell with more behind them, where the block isn't cut
pub stands : (section : Option Order) (held rest : List ℕ) (seen : NextBlock) → 12 ≤ length held → seen ≡ next_block section held → (seen ≡ NoBlock CutShort → ⊥)
    → StandsNext (next_block section held) (next_block section (held ++ rest)) rest
stands section held rest (AnotherBlock block behind) long is cut =
    subst (λ n. StandsNext n (next_block section (held ++ rest)) rest) is
    (subst (λ n. Grows n (next_block section (held ++ rest)) rest) (sym is) (grown section held rest long))
stands section held rest (NoBlock AllRead) long is cut = absurd (not_all_read section held long is)
stands section held rest (NoBlock CutShort) long is cut = absurd (cut refl)
stands section held rest (NoBlock (Refused fault)) long is cut =
    subst (λ n. StandsNext n (next_block section (held ++ rest)) rest) is
    (subst (λ n. Grows n (next_block section (held ++ rest)) rest) (sym is) (grown section held rest long))

some_same : (a b : Order) → Some a ≡ Some b → a ≡ b
some_same a b is = ap (λ o. by_default a o) is
  where
    by_default : Order → Option Order → Order
    by_default a None = a
    by_default a (Some b) = b

-- the facts of a block that is cut, in the byte order that its first octets tell
pub cut_in : (section : Option Order) (held : List ℕ) (order : Order) → 12 ≤ length held → NoBlock CutShort ≡ next_block section held → order_at section held ≡ Some order
    → IsCutBlock section held order
cut_in section held order long is told =
    let cut = cut_block section held long is in
    subst (IsCutBlock section held) (some_same cut.0 order (sym cut.1.told ∙ told)) cut.1

-- what was found isn't a block that is cut
pub not_cut : (seen : FoundBlock) → (seen ≡ found.CutShort → ⊥) → block_seen seen ≡ NoBlock CutShort → ⊥
not_cut (found.Another block rest) other e = cc
not_cut found.AllRead other e = cc
not_cut found.CutShort other e = other refl
not_cut (found.Refused fault) other e = cc

-- one that is cut and longer than those that are read
pub long_of : (section : Option Order) (held : List ℕ) (order : Order) (size : ℕ) → 12 ≤ length held → length held ≤ longest_block → NoBlock CutShort ≡ next_block section held
    → order_at section held ≡ Some order → size ≡ number_of order 4 (drop 4 held) → longest_block < size → IsLongBlock section held order size
long_of section held order size long room is told size_is more =
    subst (IsLongBlock section held order) (sym size_is) (by_size (subst (λ n. longest_block < n) size_is more))
  where
    cut : IsCutBlock section held order
    cut = cut_in section held order long is told

    told_length : ℕ
    told_length = number_of order 4 (drop 4 held)

    aligned : told_length % 4 ≡ 0
    aligned = eqb-true (told_length % 4) 0 (not-false (told_length % 4 == 0) (or_parts (nat_lt told_length 12) (not (told_length % 4 == 0)) cut.fine).1)

    other_kind : longest_block < told_length → is_read (number_of order 4 held) ≡ false
    other_kind more = and_no (is_read (number_of order 4 held)) (nat_lt longest_block told_length) cut.roomy (lt-ltb longest_block told_length more)

    by_size : longest_block < told_length → IsLongBlock section held order told_length
    by_size more = record {
      head = long;
      room = omega (arith, aligned, more, room);
      told = told;
      told_size = refl;
      fine = cut.fine;
      other = other_kind more;
    }

pub lacks_some : (section : Option Order) (held : List ℕ) (order : Order) (size : ℕ) → 12 ≤ length held → NoBlock CutShort ≡ next_block section held
    → order_at section held ≡ Some order → size ≡ number_of order 4 (drop 4 held) → length held < size
lacks_some section held order size long is told size_is = let cut = cut_in section held order long is told in omega (arith, cut.part, size_is)

-- ---- the text stays

pub keeps_self : (g : Gathered) → KeepsText g g
keeps_self g = by_rest g.supply.rest
  where
    by_rest : (r : Option (List ℕ)) → OfTexts (λ text rest. g.held ++ rest ≡ text) (option_map (λ rest. g.held ++ rest) r) r
    by_rest None = tt
    by_rest (Some r) = refl

-- behind texts that are the same
pub of_same : (P : List ℕ → List ℕ → Type 0) (old mid new : Option (List ℕ)) (held : List ℕ) → OfTexts (λ text rest. held ++ rest ≡ text) old mid
    → OfTexts P (option_map (λ rest. held ++ rest) mid) new → OfTexts P old new
of_same P None mid new held same is = tt
of_same P (Some t) None new held same is = absurd same
of_same P (Some t) (Some m) None held same is = absurd is
of_same P (Some t) (Some m) (Some n) held same is = subst (λ x. P x n) same is

pub keeps_more : (old mid new : Gathered) → KeepsText old mid → KeepsText mid new → KeepsText old new
keeps_more old mid new first second = of_same (λ text rest. new.held ++ rest ≡ text) (text_left old) mid.supply.rest new.supply.rest mid.held first second

pub if_same : (P : List ℕ → Type 0) (old mid : Option (List ℕ)) (held : List ℕ) → OfTexts (λ text rest. held ++ rest ≡ text) old mid
    → IfSome (option_map (λ rest. held ++ rest) mid) P → IfSome old P
if_same P None mid held same is = tt
if_same P (Some t) None held same is = absurd same
if_same P (Some t) (Some m) held same is = subst P same is

pub filled_behind : (section : Option Order) (old mid new : Gathered) (f : Filled) → KeepsText old mid → IsFilled section mid new f → IsFilled section old new f
filled_behind section old mid new filled.Next first is = (
  keeps_more old mid new first is.0,
  of_same (λ text rest. StandsNext (next_block section new.held) (next_block section text) rest) (text_left old) mid.supply.rest new.supply.rest mid.held first is.1,
)
filled_behind section old mid new (filled.Passed size) first is =
    of_same (λ text rest. IsPassedBlock section text (new.held ++ rest) size) (text_left old) mid.supply.rest new.supply.rest mid.held first is
filled_behind section old mid new filled.Cut first is =
    if_same (λ text. next_block section text ≡ NoBlock CutShort) (text_left old) mid.supply.rest mid.held first is
filled_behind section old mid new filled.Unequal first is =
    if_same (λ text. next_block section text ≡ NoBlock (Refused BadLength)) (text_left old) mid.supply.rest mid.held first is

-- one read takes nothing out of the text
pub fetched_keeps : (old new : Gathered) (wanted : ℕ) (is_more : Bool) → IsFetched wanted old new is_more → KeepsText old new
fetched_keeps old new wanted is_more is = by_rest old.supply.rest new.supply.rest is.consumed
  where
    by_rest : (a b : Option (List ℕ)) → Consumes a b is.taken → OfTexts (λ text rest. new.held ++ rest ≡ text) (option_map (λ rest. old.held ++ rest) a) b
    by_rest None b c = tt
    by_rest (Some a) None c = absurd c
    by_rest (Some a) (Some b) c =
        ap (λ t. t ++ b) is.held ∙ append_assoc old.held is.taken b ∙ ap (λ t. old.held ++ t) (sym c)

-- ---- what comes next stands there

pub next_stands : (section : Option Order) (old new : Gathered) → KeepsText old new
    → ((rest : List ℕ) → StandsNext (next_block section new.held) (next_block section (new.held ++ rest)) rest) → IsFilled section old new filled.Next
next_stands section old new same is = (same, by_texts (text_left old) new.supply.rest same)
  where
    by_texts : (a b : Option (List ℕ)) → OfTexts (λ text rest. new.held ++ rest ≡ text) a b
        → OfTexts (λ text rest. StandsNext (next_block section new.held) (next_block section text) rest) a b
    by_texts None b c = tt
    by_texts (Some a) None c = absurd c
    by_texts (Some a) (Some b) c = subst (λ t. StandsNext (next_block section new.held) (next_block section t) b) c (is b)

-- nothing is behind what is held
stands_all : (next : NextBlock) → StandsNext next next []
stands_all (AnotherBlock block behind) = ap (λ t. AnotherBlock block t) (sym (append-nil behind))
stands_all (NoBlock end) = refl

pub next_at_end : (section : Option Order) (old new : Gathered) → KeepsText old new → IsAtEnd new.supply.rest → IsFilled section old new filled.Next
next_at_end section old new same end = (same, by_texts (text_left old) new.supply.rest same end)
  where
    by_texts : (a b : Option (List ℕ)) → OfTexts (λ text rest. new.held ++ rest ≡ text) a b → IsAtEnd b
        → OfTexts (λ text rest. StandsNext (next_block section new.held) (next_block section text) rest) a b
    by_texts None b c e = tt
    by_texts (Some a) None c e = absurd c
    by_texts (Some a) (Some b) c e =
        let all : new.held ≡ a = sym (append-nil new.held) ∙ ap (λ t. new.held ++ t) (sym e) ∙ c in
        subst (λ r. StandsNext (next_block section new.held) (next_block section a) r) (sym e)
        (subst (λ t. StandsNext (next_block section new.held) (next_block section t) []) all (stands_all (next_block section new.held)))

-- ---- a block that is passed over

-- a text that begins as a block of this length does
next_long : (section : Option Order) (held rest : List ℕ) (order : Order) (size : ℕ) → IsLongBlock section held order size → (c d : Bool)
    → nat_lt (length (held ++ rest)) size ≡ c → (number_of order 4 (drop (size - 4) (held ++ rest)) == size) ≡ d
    → next_block section (held ++ rest) ≡ checked order size (held ++ rest) false false c d
next_long section held rest order size is c d p q =
    by_order_of section (held ++ rest) (omega (arith, is.head, length-append held rest))
    ∙ ap (λ x. block_by_order x (held ++ rest)) (order_at-front section held rest is.head ∙ is.told)
    ∙ ap (λ n. block_by_length order n (held ++ rest)) (number_of-front order 4 4 held rest (omega (arith, is.head)) ∙ is.told_size)
    ∙ by_checked order size (held ++ rest) false false c d is.fine
    (ap (λ b. b && nat_lt longest_block size) (ap is_read (four_front order held rest (omega (arith, is.head))) ∙ is.other)) p q

passed_block : (section : Option Order) (held rest behind : List ℕ) (order : Order) (size : ℕ) → IsLongBlock section held order size
    → PassesOver order size (held ++ rest) behind → IsPassedBlock section (held ++ rest) behind size
passed_block section held rest behind order size is over =
    let text = held ++ rest in
    let body : 12 + length (take (size - 12) (drop 8 text)) ≡ size =
    omega (arith, length-take (size - 12) (drop 8 text), length-drop 8 text, over.fits, twelve size is.fine) in
    record {
      block = block_at order size text;
      next = next_long section held rest order size is false true (le-ltb (length text) size over.fits) (eq-eqb _ _ over.second) ∙ ap (λ t. AnotherBlock (block_at order size text) t) over.then;
      long = body;
      other = ap is_read (four_front order held rest (omega (arith, is.head))) ∙ is.other;
    }

pub long_filled : (section : Option Order) (held : List ℕ) (old new : Gathered) (order : Order) (size : ℕ) (f : Filled) → held ≡ old.held
    → IsLongBlock section held order size → IsPassedOver order size old new f → IsFilled section old new f
long_filled section held old new order size f here long over = by_found f over
  where
    is : IsLongBlock section old.held order size
    is = subst (λ t. IsLongBlock section t order size) here long

    passes : (a b : Option (List ℕ)) → OfTexts (λ text rest. PassesOver order size text (new.held ++ rest)) (option_map (λ rest. old.held ++ rest) a) b
        → OfTexts (λ text rest. IsPassedBlock section text (new.held ++ rest) size) (option_map (λ rest. old.held ++ rest) a) b
    passes None b o = tt
    passes (Some a) None o = absurd o
    passes (Some a) (Some b) o = passed_block section old.held a (new.held ++ b) order size is o

    cuts : (a : Option (List ℕ)) → IfSome (option_map (λ rest. old.held ++ rest) a) (λ text. length text < size)
        → IfSome (option_map (λ rest. old.held ++ rest) a) (λ text. next_block section text ≡ NoBlock CutShort)
    cuts None o = tt
    cuts (Some a) o = next_long section old.held a order size is true _ (lt-ltb (length (old.held ++ a)) size o) refl

    differs : (a : Option (List ℕ)) → IfSome (option_map (λ rest. old.held ++ rest) a) (IsUnequal order size)
        → IfSome (option_map (λ rest. old.held ++ rest) a) (λ text. next_block section text ≡ NoBlock (Refused BadLength))
    differs None o = tt
    differs (Some a) o = next_long section old.held a order size is false false (le-ltb (length (old.held ++ a)) size o.fits) o.second

    by_found : (f : Filled) → IsPassedOver order size old new f → IsFilled section old new f
    by_found filled.Next o = absurd o
    by_found (filled.Passed passed) o =
        subst (λ n. IsFilled section old new (filled.Passed n)) (sym o.0) (passes old.supply.rest new.supply.rest o.1)
    by_found filled.Cut o = cuts old.supply.rest o
    by_found filled.Unequal o = differs old.supply.rest o

-- ---- octets that are passed over

pub behind_none : (g : Option (List ℕ)) → IsBehind g g 0
behind_none g = record { taken = []; many = refl; consumed = none g }
  where
    none : (r : Option (List ℕ)) → Consumes r r []
    none None = tt
    none (Some r) = refl

pub consumes_more : (a b c : Option (List ℕ)) (s t : List ℕ) → Consumes a b s → Consumes b c t → Consumes a c (s ++ t)
consumes_more None b c s t p q = tt
consumes_more (Some a) None c s t p q = absurd p
consumes_more (Some a) (Some b) None s t p q = absurd q
consumes_more (Some a) (Some b) (Some c) s t p q = p ∙ ap (λ x. s ++ x) q ∙ sym (append_assoc s t c)

pub behind_more : (a b c : Option (List ℕ)) (m n : ℕ) (t : List ℕ) → IsBehind a b m → Consumes b c t → m + length t ≡ n → IsBehind a c n
behind_more a b c m n t is more sum = record {
  taken = is.taken ++ t;
  many = omega (arith, length-append is.taken t, is.many, sum);
  consumed = consumes_more a b c is.taken t is.consumed more;
}

-- nothing is behind some octets, of which there are too few
pub fewer : (a b : Option (List ℕ)) (count : ℕ) (taken : List ℕ) → Consumes a b taken → IsAtEnd b → length taken < count → HasFewer a count
fewer None b count taken c e few = tt
fewer (Some a) None count taken c e few = absurd c
fewer (Some a) (Some b) count taken c e few =
    let all : a ≡ taken = c ∙ ap (λ t. taken ++ t) e ∙ append-nil taken in
    subst (λ t. length t < count) (sym all) few

-- ---- the whole of a block that is passed over

-- there are too few octets behind what was held
pub over_short : (size : ℕ) (held : List ℕ) (rest : Option (List ℕ)) (count : ℕ) → HasFewer rest count → count + length held ≤ size
    → IfSome (option_map (λ rest. held ++ rest) rest) (λ text. length text < size)
over_short size held None count few sum = tt
over_short size held (Some a) count few sum = omega (arith, length-append held a, few, sum)

-- or too few behind the body
pub fewer_behind : (a b : Option (List ℕ)) (count more : ℕ) → IsBehind a b count → HasFewer b more → HasFewer a (count + more)
fewer_behind None b count more is few = tt
fewer_behind (Some a) None count more is few = absurd is.consumed
fewer_behind (Some a) (Some b) count more is few =
    subst (λ t. length t < count + more) (sym is.consumed) (omega (arith, length-append is.taken b, is.many, few))

-- the texts of a block: what was held, what is in front of its second length, that, and what is behind
pub record IsParted (held body last : List ℕ) (a c : List ℕ) (size : ℕ) : Type 0 where
  pub parts : a ≡ body ++ (last ++ c)
  pub front : length held + length body + 4 ≡ size
  pub four : length last ≡ 4

parted_of : (held : List ℕ) (size : ℕ) (a b c : List ℕ) (count : ℕ) (body : IsBehind (Some a) (Some b) count) (last : IsBehind (Some b) (Some c) 4)
    → count + length held + 4 ≡ size → IsParted held body.taken last.taken a c size
parted_of held size a b c count body last sum = record {
  parts = body.consumed ∙ ap (λ t. body.taken ++ t) last.consumed;
  front = omega (arith, body.many, sum);
  four = last.many;
}

parted_fits : (held body last a c : List ℕ) (size : ℕ) → IsParted held body last a c size → size ≤ length (held ++ a)
parted_fits held body last a c size is =
    subst (λ t. size ≤ length (held ++ t)) (sym is.parts)
    (omega (arith, length-append held (body ++ (last ++ c)), length-append body (last ++ c), length-append last c, is.front, is.four))

parted_second : (held body last a c : List ℕ) (size : ℕ) → IsParted held body last a c size → drop (size - 4) (held ++ a) ≡ last ++ c
parted_second held body last a c size is =
    let front : length (held ++ body) ≡ size - 4 = omega (arith, length-append held body, is.front) in
    ap (λ t. drop (size - 4) (held ++ t)) is.parts ∙ ap (drop (size - 4)) (sym (append_assoc held body (last ++ c)))
    ∙ drop_at (held ++ body) (last ++ c) (size - 4) front

parted_behind : (held body last a c : List ℕ) (size : ℕ) → IsParted held body last a c size → drop size (held ++ a) ≡ c
parted_behind held body last a c size is =
    let back : size ≡ size - 4 + 4 = omega (arith, is.front) in
    ap (λ n. drop n (held ++ a)) back ∙ sym (drop-drop 4 (size - 4) (held ++ a)) ∙ ap (drop 4) (parted_second held body last a c size is)
    ∙ drop_at last c 4 is.four

parted_number : (order : Order) (held body last a c : List ℕ) (size : ℕ) → IsParted held body last a c size
    → number_of order 4 (drop (size - 4) (held ++ a)) ≡ number_of order 4 last
parted_number order held body last a c size is =
    ap (number_of order 4) (parted_second held body last a c size is) ∙ four_front order last c (omega (arith, is.four))

pub over_passed : (order : Order) (held new : List ℕ) (size : ℕ) (x y z : Option (List ℕ)) (count number : ℕ) (body : IsBehind x y count) (last : IsBehind y z 4)
    → count + length held + 4 ≡ size → number_of order 4 last.taken ≡ number → number ≡ size → new ≡ []
    → OfTexts (λ text rest. PassesOver order size text (new ++ rest)) (option_map (λ rest. held ++ rest) x) z
over_passed order held new size None y z count number body last sum is same none = tt
over_passed order held new size (Some a) None z count number body last sum is same none = absurd body.consumed
over_passed order held new size (Some a) (Some b) None count number body last sum is same none = absurd last.consumed
over_passed order held new size (Some a) (Some b) (Some c) count number body last sum is same none =
    let parted = parted_of held size a b c count body last sum in
    record {
      fits = parted_fits held body.taken last.taken a c size parted;
      then = parted_behind held body.taken last.taken a c size parted ∙ ap (λ t. t ++ c) (sym none);
      second = parted_number order held body.taken last.taken a c size parted ∙ is ∙ same;
    }

pub over_unequal : (order : Order) (held : List ℕ) (size : ℕ) (x y z : Option (List ℕ)) (count number : ℕ) (body : IsBehind x y count) (last : IsBehind y z 4)
    → count + length held + 4 ≡ size → number_of order 4 last.taken ≡ number → (number == size) ≡ false
    → IfSome (option_map (λ rest. held ++ rest) x) (IsUnequal order size)
over_unequal order held size None y z count number body last sum is differ = tt
over_unequal order held size (Some a) None z count number body last sum is differ = absurd body.consumed
over_unequal order held size (Some a) (Some b) None count number body last sum is differ = absurd last.consumed
over_unequal order held size (Some a) (Some b) (Some c) count number body last sum is differ =
    let parted = parted_of held size a b c count body last sum in
    record {
      fits = parted_fits held body.taken last.taken a c size parted;
      second = ap (λ n. n == size) (parted_number order held body.taken last.taken a c size parted ∙ is) ∙ differ;
    }

-- ---- the loops

pub number_of_next : (order : Order) (old mid new : Gathered) (held first : List ℕ) (number : ℕ) → Consumes old.supply.rest mid.supply.rest mid.held → length mid.held ≤ 4
    → octets_left mid ≤ octets_left old → held ≡ mid.held → 4 ≤ length held → number ≡ number_of order 4 first → first ≡ mid.held
    → new ≡ record { held = []; supply = mid.supply } → IsNumberNext order old new number
number_of_next order old mid new held first number consumed few less here long number_is first_is new_is =
    let size : length held ≡ length mid.held = ap length here in
    subst (λ (g : Gathered). IsNumberNext order old g number) (sym new_is) (record {
      behind = record { taken = mid.held; many = omega (arith, few, long, size); consumed = consumed };
      read = sym (number_is ∙ ap (number_of order 4) first_is);
      held = refl;
      left = omega (arith, less, long, size);
    })

pub body_more : (old mid new clear : Gathered) (seen : List ℕ) (count left most : ℕ) (is_more : Bool) → left ≤ count
    → IsBehind old.supply.rest mid.supply.rest (count - left) → mid.held ≡ [] → octets_left mid + (count - left) ≤ octets_left old → IsFetched most mid new is_more
    → seen ≡ new.held → clear ≡ record { held = []; supply = new.supply } → most ≤ left → most ≤ 327680 → new.supply.reads < mid.supply.reads
    → IsBehind old.supply.rest clear.supply.rest (count - (left - length seen)) × (clear.held ≡ [])
    × (octets_left clear + (count - (left - length seen)) ≤ octets_left old)
body_more old mid new clear seen count left most is_more part behind none less fetched seen_is clear_is fits room fewer =
    subst (λ (g : Gathered). IsBehind old.supply.rest g.supply.rest (count - (left - length seen)) × (g.held ≡ []) × (octets_left g + (count - (left - length seen)) ≤ octets_left old))
    (sym clear_is) (
      behind_more old.supply.rest mid.supply.rest new.supply.rest (count - left) (count - (left - length seen)) fetched.taken behind fetched.consumed
          (omega (arith, part, all, size, fits, fetched.fits)),
      refl,
      omega (arith, part, less, size, all, fits, room, fewer, fetched.fits),
    )
  where
    all : length fetched.taken ≡ length new.held
    all = sym (ap length (fetched.held ∙ ap (λ t. t ++ fetched.taken) none))

    size : length seen ≡ length new.held
    size = ap length seen_is

pub passes_all : (old clear body next : Gathered) (order : Order) (size second count : ℕ) (held : List ℕ) → held ≡ old.held → length old.held + 4 ≤ size
    → clear ≡ record { held = []; supply = old.supply } → PassesBody clear body count true → count ≡ size - 4 - length held → IsNumberNext order body next second → second ≡ size
    → OfTexts (λ text rest. PassesOver order size text (next.held ++ rest)) (text_left old) next.supply.rest
passes_all old clear body next order size second count held here room clear_is passed count_is number same =
    let long : length held ≡ length old.held = ap length here in
    let behind : IsBehind old.supply.rest body.supply.rest count = subst (λ (g : Gathered). IsBehind g.supply.rest body.supply.rest count) clear_is passed.0 in
    over_passed order old.held next.held size old.supply.rest body.supply.rest next.supply.rest count second behind number.behind
    (omega (arith, count_is, long, room)) number.read same number.held

pub long_leads : (section : Option Order) (old mid new : Gathered) (order : Order) (size : ℕ) (held : List ℕ) (result : Result Filled Stop) → KeepsText old mid → held ≡ mid.held
    → IsLongBlock section held order size → IfOk result (IsPassedOver order size mid new) → IfOk result (IsFilled section old new)
long_leads section old mid new order size held (Ok f) same here long over =
    filled_behind section old mid new f same (long_filled section held mid new order size f here long over)
long_leads section old mid new order size held (Err stop) same here long over = tt

pub long_passes : (section : Option Order) (mid new : Gathered) (order : Order) (size : ℕ) (held : List ℕ) (result : Result Filled Stop)
    → IsLongBlock section held order size → IfOk result (IsPassedOver order size mid new) → IfOk result PassesBlock
long_passes section mid new order size held (Ok filled.Next) long over = tt
long_passes section mid new order size held (Ok (filled.Passed passed)) long over = let same = over.0 in omega (arith, same, long.head, long.room)
long_passes section mid new order size held (Ok filled.Cut) long over = tt
long_passes section mid new order size held (Ok filled.Unequal) long over = tt
long_passes section mid new order size held (Err stop) long over = tt
