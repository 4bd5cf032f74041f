-- Lines of outputs: where two texts begin with one, both have the same.
use Rattle.std.proofs.Common.{◌≡◌, ◌≢◌, ◌∙◌, sym, refl, ap, ℕ, zero, suc, ◌+◌, ◌^◌, ◌<◌, ◌≤◌, List, [], ◌∷◌, ◌++◌, length, get_or, take, codes, decimal, All, Option, None, Some, MatchOption, Bor, arith, add-zero, append_assoc}
use Rattle.std.proofs.lemmas.Fmt.{decimal_injective}
use Rattle.std.proofs.lemmas.List.{append_cancel_left}
use Rattle.std.proofs.lemmas.List.Elements.{All-head, All-tail}
use Rattle.octet_sums.specs.declared.fletcher.sum.OctetSum.{OctetSum}
use Rattle.part_record.specs.Digests.{Lacks}
use Rattle.part_record.specs.Outputs.{IsOutput, IsTold, numbers, output_line, output_lines, output_word, sums}
use Rattle.part_record.specs.Record.{IsOneLine}
use Rattle.part_record.specs.declared.outputs.OutputFacts.{OutputFacts}
use Rattle.part_record.proofs.DigestText.{lacks_space}
use Rattle.part_record.proofs.Lines.{one_line_decimal, same_word}
use Rattle.part_record.proofs.Turns.{put_more as put_next}

-- ---- a number, and the character behind it

pub same_number : (n m : ℕ) (r q : List ℕ) → n < 2 ^ 64 → m < 2 ^ 64 → decimal n ++ 32 ∷ r ≡ decimal m ++ 32 ∷ q → (n ≡ m) × (r ≡ q)
same_number n m r q f g e =
    let both = same_word 32 (decimal n) (decimal m) r q (lacks_space n f) (lacks_space m g) e in
    (decimal_injective n m f g both.0, both.1)

pub same_last : (n m : ℕ) (r q : List ℕ) → n < 2 ^ 64 → m < 2 ^ 64 → decimal n ++ 10 ∷ r ≡ decimal m ++ 10 ∷ q → (n ≡ m) × (r ≡ q)
same_last n m r q f g e =
    let both = same_word 10 (decimal n) (decimal m) r q (one_line_decimal n f) (one_line_decimal m g) e in
    (decimal_injective n m f g both.0, both.1)

pub no_number_then : (text digits rest : List ℕ) → text ≡ digits ++ 32 ∷ rest → Lacks 32 digits → ((n : ℕ) → n < 2 ^ 64 → digits ≢ decimal n)
    → (n : ℕ) (rest' : List ℕ) → n < 2 ^ 64 → text ≢ decimal n ++ 32 ∷ rest'
no_number_then text digits rest e lacks none n rest' small h =
    none n small (same_word 32 digits (decimal n) rest rest' lacks (lacks_space n small) (sym e ∙ h)).0

pub no_last_number : (text digits rest : List ℕ) → text ≡ digits ++ 10 ∷ rest → IsOneLine digits → ((n : ℕ) → n < 2 ^ 64 → digits ≢ decimal n)
    → (n : ℕ) (rest' : List ℕ) → n < 2 ^ 64 → text ≢ decimal n ++ 10 ∷ rest'
no_last_number text digits rest e one none n rest' small h =
    none n small (same_word 10 digits (decimal n) rest rest' one (one_line_decimal n small) (sym e ∙ h)).0

-- ---- the numbers of a line

pub sums_parts : (s : OctetSum) (rest : List ℕ) → sums s ++ rest ≡ decimal s.octets ++ 32 ∷ (decimal s.first ++ 32 ∷ (decimal s.second ++ 10 ∷ rest))
sums_parts s rest = simp append_assoc

pub numbers_parts : (f : OutputFacts) (rest : List ℕ) → numbers f ++ rest ≡ decimal f.records ++ 32 ∷ (sums f.sum ++ rest)
numbers_parts f rest = simp append_assoc

same_octet_sums : (s t : OctetSum) → s.octets ≡ t.octets → s.first ≡ t.first → s.second ≡ t.second → s ≡ t
same_octet_sums s t a b c =
    ap (λ (n : ℕ). record { octets = n; first = s.first; second = s.second }) a
    ∙ ap (λ (n : ℕ). record { octets = t.octets; first = n; second = s.second }) b
    ∙ ap (λ (n : ℕ). record { octets = t.octets; first = t.first; second = n }) c

pub same_sums : (s t : OctetSum) (r q : List ℕ) → IsTold s → IsTold t → sums s ++ r ≡ sums t ++ q → (s ≡ t) × (r ≡ q)
same_sums s t r q f g e =
    let a = same_number s.octets t.octets _ _ f.octets g.octets (sym (sums_parts s r) ∙ e ∙ sums_parts t q) in
    let b = same_number s.first t.first _ _ f.first g.first a.1 in
    let c = same_last s.second t.second r q f.second g.second b.1 in
    (same_octet_sums s t a.0 b.0 c.0, c.1)

pub same_numbers : (f g : OutputFacts) (r q : List ℕ) → IsOutput f → IsOutput g → numbers f ++ r ≡ numbers g ++ q → (f ≡ g) × (r ≡ q)
same_numbers f g r q is are e =
    let a = same_number f.records g.records _ _ is.records are.records (sym (numbers_parts f r) ∙ e ∙ numbers_parts g q) in
    let b = same_sums f.sum g.sum r q is.sum are.sum a.1 in
    (ap (λ (n : ℕ). record { records = n; sum = f.sum }) a.0 ∙ ap (λ (s : OctetSum). record { records = g.records; sum = s }) b.0, b.1)

-- ---- lines

pub line_parts : (place : ℕ) (f : OutputFacts) (rest : List ℕ) → output_line place f ++ rest ≡ output_word place ++ (numbers f ++ rest)
line_parts place f rest = append_assoc (output_word place) (numbers f) rest

same_lines : (place : ℕ) (f g : OutputFacts) (r q : List ℕ) → IsOutput f → IsOutput g → output_line place f ++ r ≡ output_line place g ++ q → (f ≡ g) × (r ≡ q)
same_lines place f g r q is are e =
    same_numbers f g r q is are (append_cancel_left (output_word place) _ _ (sym (line_parts place f r) ∙ e ∙ line_parts place g q))

-- what stands behind a word is none of an output
pub no_line : (text : List ℕ) (place : ℕ) (told : List ℕ) → text ≡ output_word place ++ told
    → ((f : OutputFacts) (rest : List ℕ) → IsOutput f → told ≢ numbers f ++ rest)
    → (f : OutputFacts) (rest : List ℕ) → IsOutput f → text ≢ output_line place f ++ rest
no_line text place told e none f rest is h = none f rest is (append_cancel_left (output_word place) _ _ (sym e ∙ h ∙ line_parts place f rest))

pub line_found : (text : List ℕ) (place : ℕ) (told : List ℕ) (r : Option (OutputFacts × Bor (List ℕ))) → text ≡ output_word place ++ told
    → MatchOption r ((f : OutputFacts) (rest : List ℕ) → IsOutput f → told ≢ numbers f ++ rest) (λ found. IsOutput found.0 × (told ≡ numbers found.0 ++ found.1.now))
    → MatchOption r ((f : OutputFacts) (rest : List ℕ) → IsOutput f → text ≢ output_line place f ++ rest)
    (λ found. IsOutput found.0 × (text ≡ output_line place found.0 ++ found.1.now))
line_found text place told None e none = no_line text place told e none
line_found text place told (Some found) e some =
    (some.0, e ∙ ap (λ (l : List ℕ). output_word place ++ l) some.1 ∙ sym (line_parts place found.0 found.1.now))

-- ---- the word of a port's line

word_is : (k : ℕ) → output_word (suc k + 1) ≡ output_word (suc (suc k))
word_is k =
    let same : suc k + 1 ≡ suc (suc k) = omega arith in
    ap (λ (n : ℕ). output_word n) same

word_told : (k : ℕ) (rest : List ℕ) → output_word (suc (suc k)) ++ rest ≡ codes "output p" ++ (decimal (suc k) ++ (codes " " ++ rest))
word_told k rest = simp append_assoc

pub word_parts : (k : ℕ) (rest : List ℕ) → output_word (suc k + 1) ++ rest ≡ codes "output p" ++ (decimal (suc k) ++ (codes " " ++ rest))
word_parts k rest = ap (λ (l : List ℕ). l ++ rest) (word_is k) ∙ word_told k rest

pub port_word_found : (text numbered told : List ℕ) (port : ℕ) (r : Option (Bor (List ℕ))) → 0 < port → text ≡ codes "output p" ++ numbered → numbered ≡ decimal port ++ told
    → MatchOption r ((rest : List ℕ) → told ≢ codes " " ++ rest) (λ rest. told ≡ codes " " ++ rest.now)
    → MatchOption r ((rest : List ℕ) → text ≢ output_word (port + 1) ++ rest) (λ rest. text ≡ output_word (port + 1) ++ rest.now)
port_word_found text numbered told (suc k) None some e h none =
    λ rest f. none rest (append_cancel_left (decimal (suc k)) _ _ (sym h ∙ append_cancel_left (codes "output p") _ _ (sym e ∙ f ∙ word_parts k rest)))
port_word_found text numbered told (suc k) (Some rest) some e h found =
    e ∙ ap (λ (l : List ℕ). codes "output p" ++ l) (h ∙ ap (λ (l : List ℕ). decimal (suc k) ++ l) found) ∙ sym (word_parts k rest.now)
port_word_found text numbered told zero r some e h found = absurd (omega arith)

pub no_port_word : (text : List ℕ) (port : ℕ) → 0 < port → ((numbered : List ℕ) → text ≢ codes "output p" ++ numbered) → (rest : List ℕ) → text ≢ output_word (port + 1) ++ rest
no_port_word text (suc k) some none rest f = none _ (f ∙ word_parts k rest)
no_port_word text zero some none rest f = absurd (omega arith)

pub no_port_number : (text numbered : List ℕ) (port : ℕ) → 0 < port → text ≡ codes "output p" ++ numbered → ((told : List ℕ) → numbered ≢ decimal port ++ told)
    → (rest : List ℕ) → text ≢ output_word (port + 1) ++ rest
no_port_number text numbered (suc k) some e none rest f = none _ (append_cancel_left (codes "output p") _ _ (sym e ∙ f ∙ word_parts k rest))
no_port_number text numbered zero some e none rest f = absurd (omega arith)

pub port_word_put : (start new : List ℕ) (port : ℕ) → 0 < port → new ≡ ((start ++ codes "output p") ++ decimal port) ++ codes " " → new ≡ start ++ output_word (port + 1)
port_word_put start new (suc k) some e =
    e ∙ append_assoc (start ++ codes "output p") (decimal (suc k)) (codes " ") ∙ append_assoc start (codes "output p") (decimal (suc k) ++ codes " ")
    ∙ ap (λ (l : List ℕ). start ++ l) (sym (word_is k))
port_word_put start new zero some e = absurd (omega arith)

-- ---- lines in turn

-- one more of them was put
pub put_more : (start items named new : List ℕ) (fs : List OutputFacts) (i : ℕ) (none : OutputFacts) → i < length fs → items ≡ start ++ output_lines 0 (take i fs)
    → named ≡ items ++ output_word i → new ≡ named ++ numbers (get_or fs i none) → new ≡ start ++ output_lines 0 (take (i + 1) fs)
put_more start items named new fs i none less e n h =
    put_next output_line 0 start items new fs i i none less (omega arith) e
    (h ∙ ap (λ (l : List ℕ). l ++ numbers (get_or fs i none)) n ∙ append_assoc items (output_word i) (numbers (get_or fs i none)))

-- as many are read as there are
pub same_outputs : (place : ℕ) (a b : List OutputFacts) (r q : List ℕ) → All IsOutput a → All IsOutput b → length a ≤ length b
    → ((o : OutputFacts) (rest : List ℕ) → IsOutput o → length a < length b → r ≢ output_line (place + length a) o ++ rest)
    → output_lines place a ++ r ≡ output_lines place b ++ q → (a ≡ b) × (r ≡ q)
same_outputs place [] [] r q f g few none e = (refl, e)
same_outputs place [] (y ∷ b) r q f g few none e =
    let shown : r ≡ output_line (place + 0) y ++ (output_lines (place + 1) b ++ q) = rw add-zero (e ∙ append_assoc (output_line place y) (output_lines (place + 1) b) q) in
    absurd (none y (output_lines (place + 1) b ++ q) (All-head IsOutput y b g) (omega arith) shown)
same_outputs place (x ∷ a) [] r q f g few none e = absurd (omega (arith, few))
same_outputs place (x ∷ a) (y ∷ b) r q f g few none e =
    let both = same_lines place x y (output_lines (place + 1) a ++ r) (output_lines (place + 1) b ++ q) (All-head IsOutput x a f) (All-head IsOutput y b g)
    (sym (append_assoc (output_line place x) (output_lines (place + 1) a) r) ∙ e ∙ append_assoc (output_line place y) (output_lines (place + 1) b) q) in
    let others = same_outputs (place + 1) a b r q (All-tail IsOutput x a f) (All-tail IsOutput y b g) (omega (arith, few))
    (λ o rest is less h. none o rest is (omega arith) (h ∙ ap (λ (n : ℕ). output_line n o ++ rest) (let same : place + 1 + length a ≡ place + suc (length a) = omega arith in same)))
    both.1 in
    let first : x ≡ y = both.0 in
    let same : a ≡ b = others.0 in
    ((cc), others.1)
