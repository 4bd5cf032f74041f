-- The octets of a block tell the same with more behind them.
use Rattle.std.proofs.Common.{◌≡◌, ◌∙◌, refl, sym, ap, subst, ℕ, ◌+◌, ◌-◌, ◌<◌, ◌≤◌, Bool, true, false, List, [], ◌++◌, length, take, drop, arith, length-append, length-drop, length-take, Option, None, Some, inl, inr}
use Rattle.std.specs.Prelude.{◌==◌, ◌&&◌, nat_lt, if◌then◌else◌, ⊤}
use Rattle.std.proofs.Math.ListN.{drop_of_length-le}
use Rattle.std.proofs.lemmas.Bool.{cases_lt, le-ltb, lt-ltb, ltb-false, ltb-true, or_parts}
use Rattle.std.proofs.lemmas.List.{drop-append-le, take-append-drop, take-append-le, take_all}
use Rattle.byteorder.specs.Numbers.{big_from-append, little_from-append}
use Rattle.pcap.specs.Style.{number_of}
use Rattle.pcap.specs.declared.text.style.Order.{Order}
use Rattle.pcap.specs.declared.text.style.Order.TheVariants.{Big, Little}
use Rattle.pcapng_input.specs.Block.{AllRead, AnotherBlock, Block, BlockEnd, CutShort, NextBlock, NoBlock, Refused, block_at, block_by_length, block_by_order, byte_order_magic, end_by_size, is_no_length, is_read, is_section, longest_block, next_block, order_at, section_header, told_order}
use Rattle.pcapng_input.specs.State.{size_wanted, wanted_by, wanted_size}
use Rattle.pcapng_input.specs.declared.fault.BlockFault.TheVariants.{BadLength, TooLarge}

pub number_of-front : (order : Order) (n at : ℕ) (front rest : List ℕ) → at + n ≤ length front → number_of order n (drop at (front ++ rest)) ≡ number_of order n (drop at front)
number_of-front Big n at front rest fits =
    ap (number_of Big n) (drop-append-le at front rest (omega arith)) ∙ big_from-append n (drop at front) rest (omega (arith, length-drop at front))
number_of-front Little n at front rest fits =
    ap (number_of Little n) (drop-append-le at front rest (omega arith)) ∙ little_from-append n (drop at front) rest (omega (arith, length-drop at front))

pub four_front : (order : Order) (front rest : List ℕ) → 4 ≤ length front → number_of order 4 (front ++ rest) ≡ number_of order 4 front
four_front order front rest fits = let a : number_of order 4 (front ++ rest) ≡ number_of order 4 front = number_of-front order 4 0 front rest (omega arith) in a

pub is_section-front : (front rest : List ℕ) → 4 ≤ length front → is_section (front ++ rest) ≡ is_section front
is_section-front front rest fits = ap (λ n. n == section_header) (four_front Big front rest fits)

told_order-front : (front rest : List ℕ) → 12 ≤ length front → told_order (front ++ rest) ≡ told_order front
told_order-front front rest fits =
    let a = number_of-front Big 4 8 front rest (omega arith) in
    let b = number_of-front Little 4 8 front rest (omega arith) in
    ap (λ n. if n == byte_order_magic then Some Big else if number_of Little 4 (drop 8 (front ++ rest)) == byte_order_magic then Some Little else None) a
    ∙ ap (λ n. if number_of Big 4 (drop 8 front) == byte_order_magic then Some Big else if n == byte_order_magic then Some Little else None) b

pub order_at-front : (section : Option Order) (front rest : List ℕ) → 12 ≤ length front → order_at section (front ++ rest) ≡ order_at section front
order_at-front section front rest fits =
    ap (λ b. if b then told_order (front ++ rest) else section) (is_section-front front rest (omega arith))
    ∙ ap (λ o. if is_section front then o else section) (told_order-front front rest fits)

-- the block of a text of 12 octets or more by its byte order
pub by_order_of : (section : Option Order) (text : List ℕ) → 12 ≤ length text → next_block section text ≡ block_by_order (order_at section text) text
unfolding next_block
by_order_of section text long =
    ap (λ b. if b then NoBlock (end_by_size section (length text)) else block_by_order (order_at section text) text) (le-ltb (length text) 12 long)

-- what a text begins with by the four checks of its length
abbrev pub checked : Order → ℕ → List ℕ → Bool → Bool → Bool → Bool → NextBlock
checked order size text a b c d =
    if a then NoBlock (Refused BadLength)
    else if b then NoBlock (Refused TooLarge)
    else if c then NoBlock CutShort
    else if d then AnotherBlock (block_at order size text) (drop size text)
    else NoBlock (Refused BadLength)

pub by_checked : (order : Order) (size : ℕ) (text : List ℕ) (a b c d : Bool) → is_no_length size ≡ a → (is_read (number_of order 4 text) && nat_lt longest_block size) ≡ b
    → nat_lt (length text) size ≡ c → (number_of order 4 (drop (size - 4) text) == size) ≡ d → block_by_length order size text ≡ checked order size text a b c d
by_checked order size text a b c d p q r s =
    ap (λ x. checked order size text x (is_read (number_of order 4 text) && nat_lt longest_block size) (nat_lt (length text) size) (number_of order 4 (drop (size - 4) text) == size)) p
    ∙ ap (λ x. checked order size text a x (nat_lt (length text) size) (number_of order 4 (drop (size - 4) text) == size)) q
    ∙ ap (λ x. checked order size text a b x (number_of order 4 (drop (size - 4) text) == size)) r
    ∙ ap (λ x. checked order size text a b c x) s

pub twelve : (size : ℕ) → is_no_length size ≡ false → 12 ≤ size
twelve size is = ltb-false size 12 (or_parts _ _ is).0

kind_front : (order : Order) (size : ℕ) (held rest : List ℕ) → 12 ≤ length held
    → (is_read (number_of order 4 (held ++ rest)) && nat_lt longest_block size) ≡ (is_read (number_of order 4 held) && nat_lt longest_block size)
kind_front order size held rest long = ap (λ k. is_read k && nat_lt longest_block size) (four_front order held rest (omega arith))

-- what is found in some octets, found with more behind them
abbrev pub Grows : NextBlock → NextBlock → List ℕ → Type 0
Grows (AnotherBlock block behind) next rest = next ≡ AnotherBlock block (behind ++ rest)
Grows (NoBlock AllRead) next rest = ⊤
Grows (NoBlock CutShort) next rest = ⊤
Grows (NoBlock (Refused fault)) next rest = next ≡ NoBlock (Refused fault)

same_found : (order : Order) (size : ℕ) (held rest : List ℕ) → 12 ≤ size → size ≤ length held
    → AnotherBlock (block_at order size (held ++ rest)) (drop size (held ++ rest)) ≡ AnotherBlock (block_at order size held) (drop size held ++ rest)
same_found order size held rest small fits =
    let kind = four_front order held rest (omega arith) in
    let body : take (size - 12) (drop 8 (held ++ rest)) ≡ take (size - 12) (drop 8 held) =
    ap (take (size - 12)) (drop-append-le 8 held rest (omega arith)) ∙ take-append-le (size - 12) (drop 8 held) rest (omega (arith, length-drop 8 held)) in
    ap (λ k. AnotherBlock (record { order = order; kind = k; body = take (size - 12) (drop 8 (held ++ rest)) }) (drop size (held ++ rest))) kind
    ∙ ap (λ t. AnotherBlock (record { order = order; kind = number_of order 4 held; body = t }) (drop size (held ++ rest))) body
    ∙ ap (λ t. AnotherBlock (block_at order size held) t) (drop-append-le size held rest fits)

grown_by_checks : (order : Order) (size : ℕ) (held rest : List ℕ) → 12 ≤ length held → (a b c d : Bool) → is_no_length size ≡ a
    → (is_read (number_of order 4 held) && nat_lt longest_block size) ≡ b → nat_lt (length held) size ≡ c → (number_of order 4 (drop (size - 4) held) == size) ≡ d
    → Grows (checked order size held a b c d) (block_by_length order size (held ++ rest)) rest
grown_by_checks order size held rest long true b c d p q r s = by_checked order size (held ++ rest) true _ _ _ p refl refl refl
grown_by_checks order size held rest long false true c d p q r s =
    by_checked order size (held ++ rest) false true _ _ p (kind_front order size held rest long ∙ q) refl refl
grown_by_checks order size held rest long false false true d p q r s = tt
grown_by_checks order size held rest long false false false d p q r s =
    let small = twelve size p in
    let fits = ltb-false (length held) size r in
    let whole : nat_lt (length (held ++ rest)) size ≡ false = le-ltb (length (held ++ rest)) size (omega (arith, length-append held rest)) in
    let again : (number_of order 4 (drop (size - 4) (held ++ rest)) == size) ≡ d =
    ap (λ n. n == size) (number_of-front order 4 (size - 4) held rest (omega arith)) ∙ s in
    by_last d (by_checked order size (held ++ rest) false false false d p (kind_front order size held rest long ∙ q) whole again) small fits
  where
    by_last : (d : Bool) → block_by_length order size (held ++ rest) ≡ checked order size (held ++ rest) false false false d → 12 ≤ size → size ≤ length held
        → Grows (checked order size held false false false d) (block_by_length order size (held ++ rest)) rest
    by_last true is small fits = is ∙ same_found order size held rest small fits
    by_last false is small fits = is

grown_by_order : (order : Option Order) (held rest : List ℕ) → 12 ≤ length held → Grows (block_by_order order held) (block_by_order order (held ++ rest)) rest
grown_by_order None held rest long = refl
grown_by_order (Some o) held rest long =
    let size = number_of o 4 (drop 4 held) in
    let front : block_by_length o (number_of o 4 (drop 4 (held ++ rest))) (held ++ rest) ≡ block_by_length o size (held ++ rest) =
    ap (λ n. block_by_length o n (held ++ rest)) (number_of-front o 4 4 held rest (omega arith)) in
    subst (λ next. Grows (block_by_length o size held) next rest) (sym front)
    (grown_by_checks o size held rest long (is_no_length size) (is_read (number_of o 4 held) && nat_lt longest_block size) (nat_lt (length held) size)
    (number_of o 4 (drop (size - 4) held) == size) refl refl refl refl)

-- what 12 octets or more of a block tell, they tell with more behind them
pub grown : (section : Option Order) (held rest : List ℕ) → 12 ≤ length held → Grows (next_block section held) (next_block section (held ++ rest)) rest
grown section held rest long =
    let here = by_order_of section held long in
    let there : next_block section (held ++ rest) ≡ block_by_order (order_at section held) (held ++ rest) =
    by_order_of section (held ++ rest) (omega (arith, length-append held rest)) ∙ ap (λ o. block_by_order o (held ++ rest)) (order_at-front section held rest long) in
    subst (λ a. Grows a (next_block section (held ++ rest)) rest) (sym here)
    (subst (λ b. Grows (block_by_order (order_at section held) held) b rest) (sym there) (grown_by_order (order_at section held) held rest long))

-- ---- how many octets of a block are wanted

-- what is told where the octets end within a block
pub record IsCutBlock (section : Option Order) (held : List ℕ) (order : Order) : Type 0 where
  pub told : order_at section held ≡ Some order
  pub fine : is_no_length (number_of order 4 (drop 4 held)) ≡ false
  pub roomy : (is_read (number_of order 4 held) && nat_lt longest_block (number_of order 4 (drop 4 held))) ≡ false
  pub part : length held < number_of order 4 (drop 4 held)

pub cut_block : (section : Option Order) (held : List ℕ) → 12 ≤ length held → NoBlock CutShort ≡ next_block section held → (order : Order) × IsCutBlock section held order
cut_block section held long is = by_order (order_at section held) refl (is ∙ by_order_of section held long)
  where
    by_checks : (o : Order) → order_at section held ≡ Some o → (a b c d : Bool) → is_no_length (number_of o 4 (drop 4 held)) ≡ a
        → (is_read (number_of o 4 held) && nat_lt longest_block (number_of o 4 (drop 4 held))) ≡ b → nat_lt (length held) (number_of o 4 (drop 4 held)) ≡ c
        → NoBlock CutShort ≡ checked o (number_of o 4 (drop 4 held)) held a b c d → (order : Order) × IsCutBlock section held order
    by_checks o told true b c d p q r e = absurd cc
    by_checks o told false true c d p q r e = absurd cc
    by_checks o told false false true d p q r e = (o, record { told = told; fine = p; roomy = q; part = ltb-true _ _ r })
    by_checks o told false false false true p q r e = absurd cc
    by_checks o told false false false false p q r e = absurd cc

    by_order : (told : Option Order) → order_at section held ≡ told → NoBlock CutShort ≡ block_by_order told held → (order : Order) × IsCutBlock section held order
    by_order None told e = absurd cc
    by_order (Some o) told e =
        let size = number_of o 4 (drop 4 held) in
        by_checks o told (is_no_length size) (is_read (number_of o 4 held) && nat_lt longest_block size) (nat_lt (length held) size) (number_of o 4 (drop (size - 4) held) == size) refl refl refl e

pub wanted-short : (section : Option Order) (held : List ℕ) → length held < 12 → wanted_size section held ≡ 12
unfolding wanted_size
wanted-short section held short = ap (λ b. if b then 12 else wanted_by (order_at section held) held) (lt-ltb (length held) 12 short)

wanted-long : (section : Option Order) (held : List ℕ) → 12 ≤ length held → wanted_size section held ≡ wanted_by (order_at section held) held
unfolding wanted_size
wanted-long section held long = ap (λ b. if b then 12 else wanted_by (order_at section held) held) (le-ltb (length held) 12 long)

pub wanted-told : (section : Option Order) (held : List ℕ) (order : Order) → 12 ≤ length held → order_at section held ≡ Some order → 12 ≤ number_of order 4 (drop 4 held)
    → wanted_size section held ≡ number_of order 4 (drop 4 held)
wanted-told section held order long told small =
    wanted-long section held long ∙ ap (λ o. wanted_by o held) told
    ∙ ap (λ b. if b then 12 else number_of order 4 (drop 4 held)) (le-ltb (number_of order 4 (drop 4 held)) 12 small)

wanted-least : (section : Option Order) (held : List ℕ) → 12 ≤ length held → 12 ≤ wanted_size section held
wanted-least section held long = subst (λ n. 12 ≤ n) (sym (wanted-long section held long)) (by_order (order_at section held))
  where
    by_size : (size : ℕ) (b : Bool) → nat_lt size 12 ≡ b → 12 ≤ (if b then 12 else size)
    by_size size true is = omega arith
    by_size size false is = ltb-false size 12 is

    by_order : (o : Option Order) → 12 ≤ wanted_by o held
    by_order None = omega arith
    by_order (Some o) = by_size (number_of o 4 (drop 4 held)) (nat_lt (number_of o 4 (drop 4 held)) 12) refl

-- no octets behind the first 12 change it
wanted-more : (section : Option Order) (held rest : List ℕ) → 12 ≤ length held → wanted_size section (held ++ rest) ≡ wanted_size section held
wanted-more section held rest long =
    wanted-long section (held ++ rest) (omega (arith, length-append held rest)) ∙ ap (λ o. wanted_by o (held ++ rest)) (order_at-front section held rest long)
    ∙ by_order (order_at section held) long ∙ sym (wanted-long section held long)
  where
    by_order : (o : Option Order) → 12 ≤ length held → wanted_by o (held ++ rest) ≡ wanted_by o held
    by_order None long = refl
    by_order (Some o) long = ap size_wanted (number_of-front o 4 4 held rest (omega arith))

-- as much is wanted of the first octets that are wanted
wanted-part : (section : Option Order) (held : List ℕ) → 12 ≤ length held → wanted_size section held ≡ wanted_size section (take (wanted_size section held) held)
wanted-part section held long =
    let least = wanted-least section held long in
    let size = length-take (wanted_size section held) held in
    ap (wanted_size section) (sym (take-append-drop (wanted_size section held) held))
    ∙ wanted-more section (take (wanted_size section held) held) (drop (wanted_size section held) held) (omega (arith, size, long, least))

-- the first octets that are wanted are as many as are wanted of them, unless that is all
pub wanted-fits : (section : Option Order) (held : List ℕ) → length (take (wanted_size section held) held) ≤ wanted_size section (take (wanted_size section held) held)
wanted-fits section held = elim (cases_lt (length held) 12) [
  | inl short ↦
      let all : take (wanted_size section held) held ≡ held = take_all (wanted_size section held) held (omega (arith, short, wanted-short section held short)) in
      subst (λ t. length t ≤ wanted_size section t) (sym all) (omega (arith, short, wanted-short section held short))
  | inr long ↦
      let size = length-take (wanted_size section held) held in
      let same = wanted-part section held long in
      omega (arith, size, same)
]

-- where they are fewer, that is all
pub wanted-front : (section : Option Order) (held : List ℕ) → length (take (wanted_size section held) held) < wanted_size section (take (wanted_size section held) held)
    → length held ≤ wanted_size section held
wanted-front section held few = elim (cases_lt (length held) 12) [
  | inl short ↦ omega (arith, short, wanted-short section held short)
  | inr long ↦
      let size = length-take (wanted_size section held) held in
      let same = wanted-part section held long in
      omega (arith, size, same, few)
]

-- no block stands in fewer than 12 octets
pub no_block : (section : Option Order) (held : List ℕ) (block : Block) (behind : List ℕ) → length held < 12 → AnotherBlock block behind ≡ next_block section held → ⊥
unfolding next_block
no_block section held block behind short e =
    let ends : next_block section held ≡ NoBlock (end_by_size section (length held)) =
    ap (λ b. if b then NoBlock (end_by_size section (length held)) else block_by_order (order_at section held) held) (lt-ltb (length held) 12 short) in
    absurd (another_not_none (end_by_size section (length held)) (e ∙ ends))
  where
    another_not_none : (end : BlockEnd) → AnotherBlock block behind ≡ NoBlock end → ⊥
    another_not_none end e = absurd cc

-- where 12 octets are there, not all are read
pub not_all_read : (section : Option Order) (held : List ℕ) → 12 ≤ length held → NoBlock AllRead ≡ next_block section held → ⊥
not_all_read section held long e = by_order (order_at section held) (e ∙ by_order_of section held long)
  where
    by_checks : (o : Order) (size : ℕ) (a b c d : Bool) → NoBlock AllRead ≡ checked o size held a b c d → ⊥
    by_checks o size true b c d e = absurd cc
    by_checks o size false true c d e = absurd cc
    by_checks o size false false true d e = absurd cc
    by_checks o size false false false true e = absurd cc
    by_checks o size false false false false e = absurd cc

    by_order : (told : Option Order) → NoBlock AllRead ≡ block_by_order told held → ⊥
    by_order None e = absurd cc
    by_order (Some o) e =
        let size = number_of o 4 (drop 4 held) in
        by_checks o size (is_no_length size) (is_read (number_of o 4 held) && nat_lt longest_block size) (nat_lt (length held) size) (number_of o 4 (drop (size - 4) held) == size) e

-- where no more are held than are wanted, nothing stands behind a block
pub none_behind : (section : Option Order) (held behind : List ℕ) (block : Block) → AnotherBlock block behind ≡ next_block section held → length held ≤ wanted_size section held → behind ≡ []
none_behind section held behind block is fits = elim (cases_lt (length held) 12) [
  | inl short ↦ absurd (no_block section held block behind short is)
  | inr long ↦ by_order long (order_at section held) refl (is ∙ by_order_of section held long)
]
  where
    rest_is : (b c : Block) (s t : List ℕ) → AnotherBlock b s ≡ AnotherBlock c t → s ≡ t
    rest_is b c s t e = cc

    by_checks : (o : Order) → 12 ≤ length held → order_at section held ≡ Some o → (a b c d : Bool) → is_no_length (number_of o 4 (drop 4 held)) ≡ a
        → AnotherBlock block behind ≡ checked o (number_of o 4 (drop 4 held)) held a b c d → behind ≡ []
    by_checks o long told true b c d p e = absurd cc
    by_checks o long told false true c d p e = absurd cc
    by_checks o long told false false true d p e = absurd cc
    by_checks o long told false false false true p e =
        let size = number_of o 4 (drop 4 held) in
        let wanted = wanted-told section held o long told (twelve size p) in
        let short : length held ≤ size = omega (arith, fits, wanted) in
        rest_is _ _ _ _ e ∙ drop_of_length-le held short
    by_checks o long told false false false false p e = absurd cc

    by_order : 12 ≤ length held → (told : Option Order) → order_at section held ≡ told → AnotherBlock block behind ≡ block_by_order told held → behind ≡ []
    by_order long None told e = absurd cc
    by_order long (Some o) told e =
        let size = number_of o 4 (drop 4 held) in
        by_checks o long told (is_no_length size) (is_read (number_of o 4 held) && nat_lt longest_block size) (nat_lt (length held) size) (number_of o 4 (drop (size - 4) held) == size) refl e
