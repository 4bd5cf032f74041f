-- A block's text is read as the block.
use Rattle.std.proofs.Common.{◌≡◌, ◌≢◌, ◌∙◌, refl, sym, ap, subst, ℕ, ◌+◌, ◌-◌, ◌%◌, ◌^◌, ◌<◌, ◌≤◌, Bool, true, false, List, [], ◌∷◌, ◌++◌, length, take, drop, arith, append_assoc, inl, inr, length-append, length-drop, length-take, Option, None, Some}
use Rattle.std.specs.List.{find}
use Rattle.std.specs.Prelude.{◌==◌, ◌&&◌, ◌||◌, IsTrue, MatchBool, nat_lt, not, if◌then◌else◌}
use Rattle.std.proofs.lemmas.Bool.{cases_lt, le-ltb, ltb-false, ne_eqb, eqb-true, eqb-false, eq-eqb, not-false, or_parts}
use Rattle.std.proofs.Math.Seq.{take-append-add}
use Rattle.wire.specs.Octets.{IsText}
use Rattle.wire.proofs.OctetsLemmas.{IsText-drop}
use Rattle.std.proofs.lemmas.List.{drop_at, take_at, drop-drop, take-append-drop}
use Rattle.pcap.proofs.Headers.{four_from, number_behind}
use Rattle.pcap.proofs.Numbers.{length-octets_of, number_of-fits, number_of-octets_of}
use Rattle.pcap.specs.Style.{number_of, octets_of}
use Rattle.pcap.specs.declared.text.style.Order.{Order}
use Rattle.pcap.specs.declared.text.style.Order.TheVariants.{Big, Little}
use Rattle.pcapng_input.specs.Block.{AnotherBlock, Block, CutShort, NoBlock, Refused, block_at, block_by_length, block_by_order, byte_order_magic, end_by_size, is_no_length, is_read, is_section, longest_block, next_block, order_at, section_header, told_order}
use Rattle.pcapng_input.specs.BlockText.{BeginsWithMagic, IsBlockText, block_text}
use Rattle.pcapng_input.specs.declared.fault.BlockFault.TheVariants.{BadLength, TooLarge}

-- a type reads as a section header's in big-endian order where it is it, in whichever order it is spelled
section_type : (order : Order) (kind : ℕ) (rest : List ℕ) → kind < 2 ^ 32 → is_section (octets_of order 4 kind ++ rest) ≡ (kind == section_header)
section_type Big kind rest fits = ap (λ n. n == section_header) (number_of-octets_of Big 4 kind rest fits)
section_type Little kind rest fits = by_test (kind == section_header) refl
  where
    by_test : (b : Bool) → (kind == section_header) ≡ b → (number_of Big 4 (octets_of Little 4 kind ++ rest) == section_header) ≡ b
    by_test true is =
        let same : kind ≡ 168627466 = eqb-true _ _ is in
        ap (λ k. number_of Big 4 (octets_of Little 4 k ++ rest) == section_header) same
    by_test false is =
        let other : kind ≢ 168627466 = eqb-false _ _ is in
        ne_eqb (number_of Big 4 (octets_of Little 4 kind ++ rest)) 168627466 (λ e. other (omega (arith, e, fits)))

-- a magic tells the order that it is spelled in
magic_tells : (order : Order) (front more : List ℕ) → length front ≡ 8 → told_order (front ++ (octets_of order 4 byte_order_magic ++ more)) ≡ Some order
magic_tells order front more eight =
    ap (λ t. find (λ o. number_of o 4 t == byte_order_magic) (Big ∷ Little ∷ [])) (drop_at front (octets_of order 4 byte_order_magic ++ more) 8 eight) ∙ by_order order
  where
    by_order : (order : Order) → find (λ o. number_of o 4 (octets_of order 4 byte_order_magic ++ more) == byte_order_magic) (Big ∷ Little ∷ []) ≡ Some order
    by_order Big = refl
    by_order Little = refl

-- where no check refuses it, a block of this length is next
by_checks : (order : Order) (size : ℕ) (text : List ℕ) → is_no_length size ≡ false → (is_read (number_of order 4 text) && nat_lt longest_block size) ≡ false
    → nat_lt (length text) size ≡ false → (number_of order 4 (drop (size - 4) text) == size) ≡ true
    → block_by_length order size text ≡ AnotherBlock (block_at order size text) (drop size text)
by_checks order size text p q r s =
    ap (λ a. if a then NoBlock (Refused BadLength)
    else if is_read (number_of order 4 text) && nat_lt longest_block size then NoBlock (Refused TooLarge)
    else if nat_lt (length text) size then NoBlock CutShort
    else if number_of order 4 (drop (size - 4) text) == size then AnotherBlock (block_at order size text) (drop size text)
    else NoBlock (Refused BadLength)) p
    ∙ ap (λ b. if b then NoBlock (Refused TooLarge)
    else if nat_lt (length text) size then NoBlock CutShort
    else if number_of order 4 (drop (size - 4) text) == size then AnotherBlock (block_at order size text) (drop size text)
    else NoBlock (Refused BadLength)) q
    ∙ ap (λ c. if c then NoBlock CutShort
    else if number_of order 4 (drop (size - 4) text) == size then AnotherBlock (block_at order size text) (drop size text)
    else NoBlock (Refused BadLength)) r
    ∙ ap (λ d. if d then AnotherBlock (block_at order size text) (drop size text) else NoBlock (Refused BadLength)) s

or_false : (a b : Bool) → a ≡ false → b ≡ false → (a || b) ≡ false
or_false a b p q = rw (p, q) refl

has_room : (read : Bool) (size : ℕ) → (IsTrue read → size ≤ longest_block) → (read && nat_lt longest_block size) ≡ false
has_room true size h = le-ltb longest_block size (h refl)
has_room false size h = refl

same_block : (kind : ℕ) (body rest : List ℕ) (block : Block) (behind : List ℕ) → kind ≡ block.kind → body ≡ block.body → rest ≡ behind
    → AnotherBlock (record { order = block.order; kind = kind; body = body }) rest ≡ AnotherBlock block behind
same_block kind body rest block behind a b c =
    ap (λ k. AnotherBlock (record { order = block.order; kind = k; body = body }) rest) a
    ∙ ap (λ t. AnotherBlock (record { order = block.order; kind = block.kind; body = t }) rest) b ∙ ap (AnotherBlock block) c

pub reads_block_texts : (section : Option Order) (block : Block) (text behind : List ℕ) → IsBlockText section block text
    → next_block section (text ++ behind) ≡ AnotherBlock block behind
unfolding next_block
reads_block_texts section block text behind is =
    let o = block.order in
    let body = block.body in
    let size = 12 + length body in
    let k = octets_of o 4 block.kind in
    let s = octets_of o 4 size in
    let whole = text ++ behind in
    let lk = length-octets_of o 4 block.kind in
    let ls = length-octets_of o 4 size in
    let flat : whole ≡ k ++ (s ++ (body ++ (s ++ behind))) = ap (λ t. t ++ behind) is.whole ∙ simp append_assoc in
    let flat8 : whole ≡ (k ++ s) ++ (body ++ (s ++ behind)) = flat ∙ simp append_assoc in
    let flat9 : whole ≡ ((k ++ s) ++ body) ++ (s ++ behind) = flat ∙ simp append_assoc in
    let flat12 : whole ≡ (((k ++ s) ++ body) ++ s) ++ behind = flat ∙ simp append_assoc in
    let l8 : length (k ++ s) ≡ 8 = omega (arith, length-append k s) in
    let l9 : length ((k ++ s) ++ body) ≡ size - 4 = omega (arith, length-append (k ++ s) body) in
    let l12 : length (((k ++ s) ++ body) ++ s) ≡ size = omega (arith, length-append ((k ++ s) ++ body) s) in
    let long : size ≤ length whole = omega (arith, ap length flat12, length-append (((k ++ s) ++ body) ++ s) behind) in
    let kind_is : number_of o 4 whole ≡ block.kind = ap (number_of o 4) flat ∙ number_of-octets_of o 4 block.kind (s ++ (body ++ (s ++ behind))) is.kind_fits in
    let size_is : number_of o 4 (drop 4 whole) ≡ size = ap (λ t. number_of o 4 (drop 4 t)) flat ∙ number_behind o k (body ++ (s ++ behind)) 4 4 size lk is.size_fits in
    let again : number_of o 4 (drop (size - 4) whole) ≡ size = ap (λ t. number_of o 4 (drop (size - 4) t)) flat9 ∙ number_behind o ((k ++ s) ++ body) behind (size - 4) 4 size l9 is.size_fits in
    let rest_is : drop size whole ≡ behind = ap (drop size) flat12 ∙ drop_at (((k ++ s) ++ body) ++ s) behind size l12 in
    let body_is : take (size - 12) (drop 8 whole) ≡ body =
    ap (λ t. take (size - 12) (drop 8 t)) flat8 ∙ ap (take (size - 12)) (drop_at (k ++ s) (body ++ (s ++ behind)) 8 l8) ∙ take_at body (s ++ behind) (size - 12) (omega arith) in
    let order_is : order_at section whole ≡ Some o = by_kind (k ++ s) l8 flat8 (block.kind == section_header)
    (ap is_section flat ∙ section_type o block.kind (s ++ (body ++ (s ++ behind))) is.kind_fits) is.stands in
    let no_short : nat_lt (length whole) 12 ≡ false = le-ltb (length whole) 12 (omega arith) in
    let aligned : (size % 4 == 0) ≡ true = eq-eqb _ _ (omega (arith, is.is_padded)) in
    let fine : is_no_length size ≡ false = or_false _ _ (le-ltb size 12 (omega arith)) (ap not aligned) in
    let roomy : (is_read (number_of o 4 whole) && nat_lt longest_block size) ≡ false = rw kind_is (has_room (is_read block.kind) size is.room) in
    ap (λ b. if b then NoBlock (end_by_size section (length whole)) else block_by_order (order_at section whole) whole) no_short
    ∙ ap (λ found. block_by_order found whole) order_is
    ∙ ap (λ n. block_by_length o n whole) size_is
    ∙ by_checks o size whole fine roomy (le-ltb (length whole) size long) (eq-eqb _ _ again)
    ∙ same_block (number_of o 4 whole) (take (size - 12) (drop 8 whole)) (drop size whole) block behind kind_is body_is rest_is
  where
    by_kind : (front : List ℕ) → length front ≡ 8 → (text ++ behind) ≡ front ++ (block.body ++ (octets_of block.order 4 (12 + length block.body) ++ behind)) → (b : Bool) → is_section (text ++ behind) ≡ b
        → MatchBool b (BeginsWithMagic block) (section ≡ Some block.order) → order_at section (text ++ behind) ≡ Some block.order
    by_kind front eight flat true is_header stands =
        let s = octets_of block.order 4 (12 + length block.body) in
        let flat_magic : (text ++ behind) ≡ front ++ (octets_of block.order 4 byte_order_magic ++ (stands.0 ++ (s ++ behind))) =
        flat ∙ ap (λ t. front ++ (t ++ (s ++ behind))) stands.1 ∙ ap (λ t. front ++ t) (append_assoc (octets_of block.order 4 byte_order_magic) stands.0 (s ++ behind)) in
        ap (λ b. if b then told_order (text ++ behind) else section) is_header
        ∙ ap told_order flat_magic ∙ magic_tells block.order front (stands.0 ++ (s ++ behind)) eight
    by_kind front eight flat false is_other stands = ap (λ b. if b then told_order (text ++ behind) else section) is_other ∙ stands

-- ---- and nothing else is read as a block

no_more : (read b : Bool) → (read && b) ≡ false → IsTrue read → b ≡ false
no_more true b is h = is
no_more false b is h = absurd cc

-- the order that is told is the one in which the magic stands there
told_is : (text : List ℕ) (order : Order) → told_order text ≡ Some order → number_of order 4 (drop 8 text) ≡ byte_order_magic
told_is text order told = by_tests (number_of Big 4 (drop 8 text) == byte_order_magic) (number_of Little 4 (drop 8 text) == byte_order_magic) refl refl told
  where
    by_tests : (a b : Bool) → (number_of Big 4 (drop 8 text) == byte_order_magic) ≡ a → (number_of Little 4 (drop 8 text) == byte_order_magic) ≡ b
        → (if a then Some Big else if b then Some Little else None) ≡ Some order → number_of order 4 (drop 8 text) ≡ byte_order_magic
    by_tests true b p q e = let same : Big ≡ order = cc in subst (λ o. number_of o 4 (drop 8 text) ≡ byte_order_magic) same (eqb-true _ _ p)
    by_tests false true p q e = let same : Little ≡ order = cc in subst (λ o. number_of o 4 (drop 8 text) ≡ byte_order_magic) same (eqb-true _ _ q)
    by_tests false false p q e = absurd cc

-- what was checked of a block that is found
record IsChecked (section : Option Order) (order : Order) (size : ℕ) (text : List ℕ) : Type 0 where
  pub order_is : order_at section text ≡ Some order
  pub size_is : size ≡ number_of order 4 (drop 4 text)
  pub fine : is_no_length size ≡ false
  pub roomy : (is_read (number_of order 4 text) && nat_lt longest_block size) ≡ false
  pub whole : nat_lt (length text) size ≡ false
  pub again : (number_of order 4 (drop (size - 4) text) == size) ≡ true

-- the block's text in front of a text
abbrev IsInFront : Option Order → Block → List ℕ → List ℕ → Type 0
IsInFront section block text rest = (front : List ℕ) × IsBlockText section block front × (text ≡ front ++ rest)

checked_text : (section : Option Order) (order : Order) (size : ℕ) (text : List ℕ) → IsText text → IsChecked section order size text
    → IsInFront section (block_at order size text) text (drop size text)
checked_text section order size text h is =
    let o = order in
    let fine = or_parts _ _ is.fine in
    let twelve : 12 ≤ size = ltb-false size 12 fine.0 in
    let aligned : size % 4 ≡ 0 = eqb-true _ _ (not-false _ fine.1) in
    let long : size ≤ length text = ltb-false (length text) size is.whole in
    let kind = number_of o 4 text in
    let body = take (size - 12) (drop 8 text) in
    let body_length : length body ≡ size - 12 = omega (arith, length-take (size - 12) (drop 8 text), length-drop 8 text) in
    let same_size : 12 + length body ≡ size = omega arith in
    let kind_fits : kind < 2 ^ 32 = number_of-fits o 4 text h in
    let size_fits : 12 + length body < 2 ^ 32 = omega (arith, same_size, is.size_is, number_of-fits o 4 (drop 4 text) (IsText-drop 4 text h)) in
    let p0 : text ≡ octets_of o 4 kind ++ drop 4 text = four_from o 0 text h (omega arith) in
    let p1 : drop 4 text ≡ octets_of o 4 size ++ drop 8 text = four_from o 4 text h (omega arith) ∙ ap (λ n. octets_of o 4 n ++ drop 8 text) (sym is.size_is) in
    let p2 : drop 8 text ≡ body ++ drop (size - 4) text =
    sym (take-append-drop (size - 12) (drop 8 text)) ∙ ap (λ t. body ++ t) (drop-drop (size - 12) 8 text ∙ ap (λ n. drop n text) (let e : 8 + (size - 12) ≡ size - 4 = omega arith in e)) in
    let p3 : drop (size - 4) text ≡ octets_of o 4 size ++ drop size text =
    four_from o (size - 4) text h (omega arith) ∙ ap (λ n. octets_of o 4 n ++ drop (size - 4 + 4) text) (eqb-true _ _ is.again)
    ∙ ap (λ n. octets_of o 4 size ++ drop n text) (let e : size - 4 + 4 ≡ size = omega arith in e) in
    let s = octets_of o 4 size in
    let k = octets_of o 4 kind in
    let spelled : text ≡ (k ++ (s ++ (body ++ s))) ++ drop size text =
    p0 ∙ ap (λ t. k ++ t) p1 ∙ ap (λ t. k ++ (s ++ t)) p2 ∙ ap (λ t. k ++ (s ++ (body ++ t))) p3 ∙ simp append_assoc in
    let block = block_at order size text in
    let kind_test : is_section text ≡ (kind == section_header) = ap is_section p0 ∙ section_type o kind (drop 4 text) kind_fits in (
      block_text block,
      record {
        kind_fits = kind_fits;
        is_padded = omega arith;
        size_fits = size_fits;
        room = λ read. omega (arith, same_size, ltb-false longest_block size (no_more _ _ is.roomy read));
        stands = by_kind twelve aligned body_length (kind == section_header) kind_test;
        whole = refl;
      },
      spelled ∙ ap (λ n. (k ++ (octets_of o 4 n ++ (body ++ octets_of o 4 n))) ++ drop size text) (sym same_size),
    )
  where
    by_kind : 12 ≤ size → size % 4 ≡ 0 → length (take (size - 12) (drop 8 text)) ≡ size - 12 → (b : Bool) → is_section text ≡ b
        → MatchBool b (BeginsWithMagic (block_at order size text)) (section ≡ Some order)
    by_kind twelve aligned body_length false test = sym (ap (λ b. if b then told_order text else section) test) ∙ is.order_is
    by_kind twelve aligned body_length true test =
        let told : told_order text ≡ Some order = sym (ap (λ b. if b then told_order text else section) test) ∙ is.order_is in
        let magic : number_of order 4 (drop 8 text) ≡ byte_order_magic = told_is text order told in
        let again : number_of order 4 (drop (size - 4) text) ≡ size = eqb-true _ _ is.again in
        let long : size ≤ length text = ltb-false (length text) size is.whole in
        let sixteen : 16 ≤ size = elim (cases_lt size 13) [
          | inl small ↦
              let exact : size ≡ 12 = omega arith in
              let there : number_of order 4 (drop 8 text) ≡ 12 = ap (λ n. number_of order 4 (drop (n - 4) text)) (sym exact) ∙ again ∙ exact in
              absurd (omega (arith, there, magic))
          | inr more ↦ omega arith
        ] in
        let m = octets_of order 4 byte_order_magic in
        let lm = length-octets_of order 4 byte_order_magic in
        let front : drop 8 text ≡ m ++ drop 12 text = four_from order 8 text h (omega arith) ∙ ap (λ n. octets_of order 4 n ++ drop 12 text) magic in
        let cut : size - 12 ≡ length m + (size - 16) = omega (arith, lm) in (
          take (size - 16) (drop 12 text),
          ap (take (size - 12)) front ∙ ap (λ n. take n (m ++ drop 12 text)) cut ∙ take-append-add m (drop 12 text) (size - 16),
        )

another_is : (a b : Block) (rest more : List ℕ) → AnotherBlock a rest ≡ AnotherBlock b more → (a ≡ b) × (rest ≡ more)
another_is a b rest more e = (cc, cc)

pub finds_block_texts : (section : Option Order) (block : Block) (text rest : List ℕ) → IsText text → next_block section text ≡ AnotherBlock block rest
    → IsInFront section block text rest
unfolding next_block
finds_block_texts section block text rest h e = by_head (nat_lt (length text) 12) e
  where
    found : (o : Order) → IsChecked section o (number_of o 4 (drop 4 text)) text
        → AnotherBlock (block_at o (number_of o 4 (drop 4 text)) text) (drop (number_of o 4 (drop 4 text)) text) ≡ AnotherBlock block rest → IsInFront section block text rest
    found o checked e =
        let same = another_is _ _ _ _ e in
        subst (λ t. IsInFront section block text t) same.1
        (subst (λ b. IsInFront section b text (drop (number_of o 4 (drop 4 text)) text)) same.0 (checked_text section o (number_of o 4 (drop 4 text)) text h checked))

    by_tests : (o : Order) → order_at section text ≡ Some o → (a b c d : Bool) → is_no_length (number_of o 4 (drop 4 text)) ≡ a
        → (is_read (number_of o 4 text) && nat_lt longest_block (number_of o 4 (drop 4 text))) ≡ b → nat_lt (length text) (number_of o 4 (drop 4 text)) ≡ c
        → (number_of o 4 (drop (number_of o 4 (drop 4 text) - 4) text) == number_of o 4 (drop 4 text)) ≡ d
        → (if a then NoBlock (Refused BadLength)
        else if b then NoBlock (Refused TooLarge)
        else if c then NoBlock CutShort
        else if d then AnotherBlock (block_at o (number_of o 4 (drop 4 text)) text) (drop (number_of o 4 (drop 4 text)) text)
        else NoBlock (Refused BadLength)) ≡ AnotherBlock block rest
        → IsInFront section block text rest
    by_tests o is true b c d p q r s e = absurd cc
    by_tests o is false true c d p q r s e = absurd cc
    by_tests o is false false true d p q r s e = absurd cc
    by_tests o is false false false false p q r s e = absurd cc
    by_tests o is false false false true p q r s e = found o (record { order_is = is; size_is = refl; fine = p; roomy = q; whole = r; again = s }) e

    by_order : (told : Option Order) → order_at section text ≡ told → block_by_order told text ≡ AnotherBlock block rest → IsInFront section block text rest
    by_order None is e = absurd cc
    by_order (Some o) is e =
        let size = number_of o 4 (drop 4 text) in
        by_tests o is (is_no_length size) (is_read (number_of o 4 text) && nat_lt longest_block size) (nat_lt (length text) size) (number_of o 4 (drop (size - 4) text) == size) refl refl refl refl e

    by_head : (b : Bool) → (if b then NoBlock (end_by_size section (length text)) else block_by_order (order_at section text) text) ≡ AnotherBlock block rest
        → IsInFront section block text rest
    by_head true e = absurd cc
    by_head false e = by_order (order_at section text) refl e
