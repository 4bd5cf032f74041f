-- Texts that are read or written part by part.
use Rattle.std.proofs.Common.{◌≡◌, ◌∙◌, sym, ap, subst, ℕ, suc, ◌+◌, ◌<◌, ◌≤◌, ◌≢◌, List, ◌∷◌, ◌++◌, length, length-take-le, take, drop, get_or, arith, append_assoc, length-append, Option, None, Some, IfSome, OnErr, OnOk, Result, Ok, Err}
use Rattle.std.proofs.KnownBytes.{Appends-trans, Consumes-kept, Consumes-trans}
use Rattle.std.proofs.Math.Seq.{drop-cons, take-add, take-append-add}
use Rattle.std.proofs.lemmas.Bool.{ne_eqb}
use Rattle.std.proofs.lemmas.Grind.{flat_map-append}
use Rattle.std.proofs.lemmas.List.{take-append-drop, take-append-le, take_all}
use Rattle.std.proofs.lemmas.List.Concat.{flat_map-cons}
use Rattle.std.specs.Io.KnownBytes.{Appends, Consumes, Keeps}
use Rattle.std.specs.List.{flat_map}
use Rattle.std.specs.Prelude.{◌==◌, ◌&&◌, MatchBool, nat_lt}
use Rattle.pcap.specs.Counts.{GoesOnBy}
use Rattle.pcap.specs.Sink.{AppendsPart}
use Rattle.pcap.specs.Supply.{IsThrifty, Spends, Supply}

-- a longer front of a buffer was read
pub front_more : (a b c : Option (List ℕ)) (old new : List ℕ) (at n : ℕ) → take at new ≡ take at old → Consumes a b (take at old) → Consumes b c (take n (drop at new))
    → Consumes a c (take (at + n) new)
front_more a b c old new at n same before more =
    let first : Consumes a b (take at new) = subst (Consumes a b) (sym same) before in
    subst (Consumes a c) (sym (take-add at n new)) (Consumes-trans a b c _ _ first more)

-- reads that are made one after another count together
pub Spends-trans : (a b c : Supply) → Spends a b → Spends b c → Spends a c
Spends-trans a b c p q = record { fewer = omega (arith, p.fewer, q.fewer); calls = omega (arith, p.fewer, q.fewer, p.calls, q.calls) }

-- a longer front of a text was written
pub written_more : (a b c : Option (List ℕ)) (text : List ℕ) (at n : ℕ) → Appends a b (take at text) → Appends b c (take n (drop at text)) → Appends a c (take (at + n) text)
written_more a b c text at n before more = subst (Appends a c) (sym (take-add at n text)) (Appends-trans a b c _ _ before more)

-- where all of a text was taken, it was written
pub all_taken : {T E : Type 0} (a b : Option (List ℕ)) (text : List ℕ) (n : ℕ) (result : Result T E) → OnOk result (n ≡ length text) → Appends a b (take n text)
    → OnOk result (Appends a b text)
all_taken a b text n (Ok x) all taken = subst (Appends a b) (take_all n text (omega (arith, all))) taken
all_taken a b text n (Err e) all taken = tt

-- and otherwise a part of it
pub part_taken : {T E : Type 0} (a b : Option (List ℕ)) (text : List ℕ) (n : ℕ) (result : Result T E) → OnErr result (n < length text) → Appends a b (take n text)
    → OnErr result (AppendsPart a b text)
part_taken a b text n (Ok x) short taken = tt
part_taken a b text n (Err e) short taken = (n, short, taken)

-- a write that took something is no refusal
pub took_some : (old new n size : ℕ) → n ≢ 0 → MatchBool (n == 0 && nat_lt 0 size) (GoesOnBy 1 old new) (new ≡ old) → new ≡ old
took_some old new n size some counted = rw (ne_eqb n 0 some) at counted

-- a part of a text is a part of it and what is behind it
pub part_more : (a b : Option (List ℕ)) (text rest : List ℕ) → AppendsPart a b text → AppendsPart a b (text ++ rest)
part_more a b text rest part =
    let fits : part.0 < length (text ++ rest) = omega (arith, part.1, length-append text rest) in
    (part.0, fits, subst (Appends a b) (sym (take-append-le part.0 text rest (omega (arith, part.1)))) part.2)

-- and a part of it behind a text is a part of both
pub part_behind : (a b c : Option (List ℕ)) (front text : List ℕ) → Appends a b front → AppendsPart b c text → AppendsPart a c (front ++ text)
part_behind a b c front text before part =
    let fits : length front + part.0 < length (front ++ text) = omega (arith, part.1, length-append front text) in
    (length front + part.0, fits, subst (Appends a c) (sym (take-append-add front text part.0)) (Appends-trans a b c _ _ before part.2))

-- the same where that is what an answer says
pub part_behind_on : {T E : Type 0} (a b c : Option (List ℕ)) (front text : List ℕ) (result : Result T E) → Appends a b front → OnErr result (AppendsPart b c text)
    → OnErr result (AppendsPart a c (front ++ text))
part_behind_on a b c front text (Ok x) before part = tt
part_behind_on a b c front text (Err e) before part = part_behind a b c front text before part

-- four texts and one behind them
pub four_behind : (front a b c d e : List ℕ) → front ≡ a ++ (b ++ (c ++ d)) → front ++ e ≡ a ++ (b ++ (c ++ (d ++ e)))
four_behind front a b c d e is =
    ap (λ (t : List ℕ). t ++ e) is ∙ append_assoc a (b ++ (c ++ d)) e
    ∙ ap (λ (t : List ℕ). a ++ t) (append_assoc b (c ++ d) e ∙ ap (λ (t : List ℕ). b ++ t) (append_assoc c d e))

-- a part of one of several texts, behind those before it, is a part of all
pub part_of_all : {A : Type 0} (a b c : Option (List ℕ)) (f : A → List ℕ) (xs : List A) (i : ℕ) (d : A) → i < length xs
    → Appends a b (flat_map f (take i xs)) → AppendsPart b c (f (get_or xs i d)) → AppendsPart a c (flat_map f xs)
part_of_all a b c f xs i d there before part =
    let front = flat_map f (take i xs) in
    let text = f (get_or xs i d) in
    let rest = flat_map f (drop (suc i) xs) in
    let split : xs ≡ take i xs ++ (get_or xs i d ∷ drop (suc i) xs) = sym (take-append-drop i xs) ∙ ap (λ l. take i xs ++ l) (drop-cons xs i d there) in
    let all : flat_map f xs ≡ front ++ (text ++ rest) =
    ap (flat_map f) split ∙ flat_map-append f (take i xs) (get_or xs i d ∷ drop (suc i) xs) ∙ ap (λ l. front ++ l) (flat_map-cons f (get_or xs i d) (drop (suc i) xs)) in
    let n = part.0 in
    let fits : n ≤ length text = omega (arith, part.1) in
    let taken : take (length front + n) (flat_map f xs) ≡ front ++ take n text =
    ap (take (length front + n)) all ∙ take-append-add front (text ++ rest) n ∙ ap (λ l. front ++ l) (take-append-le n text rest fits) in
    let short : length front + n < length (flat_map f xs) = omega (arith, part.1, ap length all, length-append front (text ++ rest), length-append text rest) in
    (length front + n, short, subst (Appends a c) (sym taken) (Appends-trans a b c _ _ before part.2))

-- ---- no read is wasted

length_told : (text rest octets : List ℕ) (n : ℕ) → n ≤ length octets → text ≡ take n octets ++ rest → length text ≡ n + length rest
length_told text rest octets n fits is = ap length is ∙ length-append (take n octets) rest ∙ ap (λ k. k + length rest) (length-take-le n octets fits)

thrifty_by : (a b : Option (List ℕ)) (octets : List ℕ) (n old new : ℕ) → n ≤ length octets → Consumes a b (take n octets) → old ≤ new + n + 1
    → IfSome a (λ text. IfSome b (λ rest. old + length rest ≤ new + length text + 1))
thrifty_by None b octets n old new fits taken few = tt
thrifty_by (Some text) None octets n old new fits taken few = tt
thrifty_by (Some text) (Some rest) octets n old new fits taken few = omega (arith, length_told text rest octets n fits taken)

-- one read more than octets
pub thrifty_from : (old new : Supply) (octets : List ℕ) (n : ℕ) → n ≤ length octets → Consumes old.rest new.rest (take n octets) → old.reads ≤ new.reads + n + 1 → IsThrifty old new
thrifty_from old new octets n fits taken few = thrifty_by old.rest new.rest octets n old.reads new.reads fits taken few

-- a read that failed behind reads that took an octet each
pub thrifty_failed : (old mid new : Supply) (octets : List ℕ) (n : ℕ) → n ≤ length octets → Consumes old.rest mid.rest (take n octets) → old.reads ≤ mid.reads + n
    → Keeps mid.rest new.rest → mid.reads ≤ new.reads + 1 → IsThrifty old new
thrifty_failed old mid new octets n fits taken few kept one =
    thrifty_from old new octets n fits (Consumes-kept old.rest mid.rest new.rest _ taken kept) (omega arith)
