-- Octets that were read ahead, and those that are taken of them.
use Rattle.std.proofs.Common.{◌≡◌, ◌∙◌, refl, sym, ap, subst, ℕ, ◌+◌, ◌-◌, ◌≤◌, List, ◌++◌, take, drop, drop_at, length, length-append, length-take, slice_range, append_assoc, arith, max, option_map, IfSome, Option, None, Some, inl, inr}
use Rattle.std.proofs.lemmas.Bool.{cases_lt}
use Rattle.std.proofs.KnownBytes.{Consumes-kept}
use Rattle.std.proofs.lemmas.List.{drop-drop, drop-take, take-append-drop}
use Rattle.std.specs.Io.KnownBytes.{Consumes, Keeps, prepend_known}
use Rattle.pcap.specs.Ahead.{Ahead, left_of}
use Rattle.pcap.specs.Supply.{IsThrifty, Supply, TakesOneEach}

-- what is left between two places of a room, once its first octets are taken
pub left_between : (room : List ℕ) (from to n : ℕ) → from + n ≤ to → slice_range room (from + n) to ≡ drop n (slice_range room from to)
left_between room from to n inside =
    let parts : to - from ≡ n + (to - (from + n)) = omega arith in
    sym (ap (λ k. drop n (take k (drop from room))) parts ∙ drop-take n _ (drop from room) ∙ ap (take (to - (from + n))) (drop-drop n from room))

-- what may be taken of it ends before it does
pub size_between : (room : List ℕ) (from to n : ℕ) (ahead : List ℕ) → from ≤ to → n ≤ length ahead → slice_range room from to ≡ ahead → from + n ≤ to
size_between room from to n ahead order fits is = omega (arith, fits, order, ap length is, length-take (to - from) (drop from room))

-- what is ahead may be taken whole
pub ahead_whole : (rest : Option (List ℕ)) (octets : List ℕ) → Consumes (prepend_known octets rest) rest octets
ahead_whole None octets = tt
ahead_whole (Some text) octets = refl

-- or a part of it
pub ahead_part : (a rest : Option (List ℕ)) (octets : List ℕ) (n : ℕ) → Consumes a rest octets → Consumes a (prepend_known (drop n octets) rest) (take n octets)
ahead_part None rest octets n whole = tt
ahead_part (Some text) None octets n whole = absurd whole
ahead_part (Some text) (Some rest) octets n whole =
    whole ∙ ap (λ l. l ++ rest) (sym (take-append-drop n octets)) ∙ append_assoc (take n octets) (drop n octets) rest

-- what was taken of it, and what is ahead behind
pub ahead_taken : (a : Option (List ℕ)) (mid new : Ahead) (n : ℕ) → Consumes a mid.input.rest mid.ahead → new.input ≡ mid.input → new.taken ≡ take n mid.ahead
    → new.ahead ≡ drop n mid.ahead → Consumes a (left_of new).rest new.taken
ahead_taken a mid new n whole same taken ahead =
    subst (λ t. Consumes a (left_of new).rest t) (sym taken)
    (subst (λ l. Consumes a (prepend_known l new.input.rest) (take n mid.ahead)) (sym ahead)
    (subst (λ (s : Supply). Consumes a (prepend_known (drop n mid.ahead) s.rest) (take n mid.ahead)) (sym same) (ahead_part a mid.input.rest mid.ahead n whole)))

-- ---- the reads of the input alone

sizes : (ahead octets text rest : List ℕ) → ahead ++ text ≡ octets ++ rest → length ahead + length text ≡ length octets + length rest
sizes ahead octets text rest is = sym (length-append ahead text) ∙ ap length is ∙ length-append octets rest

-- each read brought an octet behind those that were ahead
pub one_each_behind : (ahead octets : List ℕ) (old new : Supply) → Consumes (prepend_known ahead old.rest) new.rest octets
    → old.reads + length ahead ≤ new.reads + length octets → TakesOneEach old new
one_each_behind ahead octets old new taken few = by_text old.rest new.rest taken
  where
    by_text : (a b : Option (List ℕ)) → Consumes (prepend_known ahead a) b octets
        → IfSome a (λ text. IfSome b (λ rest. old.reads + length rest ≤ new.reads + length text))
    by_text None b taken = tt
    by_text (Some text) None taken = tt
    by_text (Some text) (Some rest) taken = omega (arith, few, sizes ahead octets text rest taken)

-- each read but one did
pub thrifty_behind : (ahead octets : List ℕ) (old new : Supply) → Consumes (prepend_known ahead old.rest) new.rest octets
    → old.reads + length ahead ≤ new.reads + length octets + 1 → IsThrifty old new
thrifty_behind ahead octets old new taken few = by_text old.rest new.rest taken
  where
    by_text : (a b : Option (List ℕ)) → Consumes (prepend_known ahead a) b octets
        → IfSome a (λ text. IfSome b (λ rest. old.reads + length rest ≤ new.reads + length text + 1))
    by_text None b taken = tt
    by_text (Some text) None taken = tt
    by_text (Some text) (Some rest) taken = omega (arith, few, sizes ahead octets text rest taken)

-- a read that failed behind such reads
pub thrifty_then_failed : (ahead octets : List ℕ) (old mid new : Supply) → Consumes (prepend_known ahead old.rest) mid.rest octets
    → old.reads + length ahead ≤ mid.reads + length octets → Keeps mid.rest new.rest → mid.reads ≤ new.reads + 1 → IsThrifty old new
thrifty_then_failed ahead octets old mid new taken few kept one =
    thrifty_behind ahead octets old new (Consumes-kept (prepend_known ahead old.rest) mid.rest new.rest octets taken kept) (omega (arith, few, one))

-- no read is thrifty
pub thrifty_none : (s : Supply) → IsThrifty s s
thrifty_none s = by_text s.rest
  where
    by_text : (a : Option (List ℕ)) → IfSome a (λ text. IfSome a (λ rest. s.reads + length rest ≤ s.reads + length text + 1))
    by_text None = tt
    by_text (Some text) = omega arith

pub one_each_none : (s : Supply) → TakesOneEach s s
one_each_none s = by_text s.rest
  where
    by_text : (a : Option (List ℕ)) → IfSome a (λ text. IfSome a (λ rest. s.reads + length rest ≤ s.reads + length text))
    by_text None = tt
    by_text (Some text) = omega arith

-- reads that took an octet each, and then others of which one took none
pub thrifty_then : (old mid new : Ahead) (octets : List ℕ) → Consumes (left_of old).rest (left_of mid).rest octets → TakesOneEach old.input mid.input → IsThrifty mid.input new.input
    → IsThrifty old.input new.input
thrifty_then old mid new octets taken each more = by_text old.input.rest mid.input.rest new.input.rest taken each more
  where
    by_text : (a b c : Option (List ℕ)) → Consumes (prepend_known old.ahead a) (prepend_known mid.ahead b) octets
        → IfSome a (λ text. IfSome b (λ rest. old.input.reads + length rest ≤ mid.input.reads + length text))
        → IfSome b (λ text. IfSome c (λ rest. mid.input.reads + length rest ≤ new.input.reads + length text + 1))
        → IfSome a (λ text. IfSome c (λ rest. old.input.reads + length rest ≤ new.input.reads + length text + 1))
    by_text None b c taken each more = tt
    by_text (Some text) None c taken each more = absurd taken
    by_text (Some text) (Some rest) None taken each more = tt
    by_text (Some text) (Some rest) (Some left) taken each more = omega (arith, each, more)

-- what is left without what is ahead
pub without_ahead : (ahead : List ℕ) (rest : Option (List ℕ)) → option_map (drop (length ahead)) (prepend_known ahead rest) ≡ rest
without_ahead ahead None = refl
without_ahead ahead (Some text) = ap Some (drop_at ahead text (length ahead) refl)

-- of the octets that a part takes, those that weren't ahead are read
pub read_by_part : (old new n before behind : ℕ) → old + before ≤ new + max n before → (n ≤ before → behind + n ≡ before) → old + before ≤ new + behind + n
read_by_part old new n before behind few whole =
    elim (cases_lt before n) [
      | inl short ↦ omega (arith, few, short)
      | inr full ↦ omega (arith, few, whole full)
    ]
