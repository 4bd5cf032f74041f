-- Lines of a text, and the segment that a line begins with.
use Rattle.std.proofs.Common.{◌≡◌, ◌≢◌, ◌∙◌, ap, sym, refl, ℕ, ◌+◌, ◌^◌, ◌<◌, arith, Bool, true, false, cond, eqb, List, [], ◌∷◌, ◌++◌, All, length, append_assoc, get_or, take, drop, suc, subst, Some}
use Rattle.std.specs.Prelude.{codes, decimal}
use Rattle.std.specs.List.{flat_map}
use Rattle.std.proofs.Math.Numerals.{suc-eq-add-one}
use Rattle.std.proofs.Math.Seq.{drop-cons}
use Rattle.std.proofs.lemmas.Bool.{eqb-true}
use Rattle.std.proofs.lemmas.List.{get_or-take, length-take-le, take-append-drop}
use Rattle.std.proofs.lemmas.List.Elements.{All-from_get_or, All-head, All-same, All-tail}
use Rattle.wire.specs.Tag.{IsVid}
use Rattle.segment_set.specs.Segments.{Segments, holds}
use Rattle.line_words.specs.Numbers.{number_of}
use Rattle.line_words.specs.Words.{word, behind}
use Rattle.line_words.proofs.Decimals.{IsNoDigit, lacks_decimal, number_decimal, number_exact}
use Rattle.line_words.proofs.Fronts.{word_front, behind_front}
use Rattle.run_counts.specs.Tables.{BeginsWithNone, HasNoRows, IsOf, IsRow, row_text}
use Rattle.run_counts.specs.declared.parts.table_row.TableRow.{TableRow}

-- ---- lines

-- it is no line feed
abbrev pub IsInLine : ℕ → Type 0
IsInLine c = c ≢ 10

-- two texts that are one begin with one line
pub one_line : (a b x y : List ℕ) → All IsInLine a → All IsInLine b → a ++ 10 ∷ x ≡ b ++ 10 ∷ y → (a ≡ b) × (x ≡ y)
one_line [] [] x y first second same = (refl, cc)
one_line [] (c ∷ cs) x y first second same = let feed : c ≡ 10 = cc in absurd (All-head IsInLine c cs second feed)
one_line (c ∷ cs) [] x y first second same = let feed : c ≡ 10 = cc in absurd (All-head IsInLine c cs first feed)
one_line (c ∷ cs) (d ∷ ds) x y first second same =
    let head : c ≡ d = cc in
    let tail : cs ++ 10 ∷ x ≡ ds ++ 10 ∷ y = cc in
    let rest = one_line cs ds x y (All-tail IsInLine c cs first) (All-tail IsInLine d ds second) tail in
    ((λ i. head i ∷ rest.0 i), rest.1)

-- the text of a row and what stands behind it
pub row_and_more : (row : TableRow) (more : List ℕ) → row_text row ++ more ≡ row.line.now ++ 10 ∷ more
row_and_more row more = append_assoc row.line.now (10 ∷ []) more

-- a text without a line feed begins with no line
pub no_line : (a x : List ℕ) → All IsInLine (a ++ 10 ∷ x) → ⊥
no_line [] x none = All-head IsInLine 10 x none refl
no_line (c ∷ cs) x none = no_line cs x (All-tail IsInLine c (cs ++ 10 ∷ x) none)

-- two rows with which one text begins have one line
pub rows_alike : (segments : Segments) (a b : TableRow) (x y : List ℕ) → IsRow segments a → IsRow segments b → row_text a ++ x ≡ row_text b ++ y → x ≡ y
rows_alike segments a b x y first second same =
    (one_line a.line.now b.line.now x y first.one second.one (sym (row_and_more a x) ∙ same ∙ row_and_more b y)).1

-- ---- rows

-- a text with a line that is none
apart : (segments : Segments) (rows others : List TableRow) (rest : List ℕ) → All (IsRow segments) rows → All (IsRow segments) others → 0 < length rest
    → BeginsWithNone segments rest → flat_map row_text rows ++ rest ≡ flat_map row_text others → ⊥
apart segments [] [] rest first second some none same = let empty : length rest ≡ 0 = ap length same in omega (arith, empty, some)
apart segments [] (b ∷ ys) rest first second some none same = none b (flat_map row_text ys) (All-head (IsRow segments) b ys second) same
apart segments (a ∷ xs) [] rest first second some none same = no_row a (flat_map row_text xs ++ rest) (sym (append_assoc (row_text a) (flat_map row_text xs) rest) ∙ same)
  where
    no_row : (row : TableRow) (more : List ℕ) → row_text row ++ more ≡ [] → ⊥
    no_row row more same = nothing row.line.now more (sym (row_and_more row more) ∙ same)
      where
        nothing : (line more : List ℕ) → line ++ 10 ∷ more ≡ [] → ⊥
        nothing [] more same = absurd cc
        nothing (c ∷ cs) more same = absurd cc
apart segments (a ∷ xs) (b ∷ ys) rest first second some none same =
    apart segments xs ys rest (All-tail (IsRow segments) a xs first) (All-tail (IsRow segments) b ys second) some none
    (rows_alike segments a b (flat_map row_text xs ++ rest) (flat_map row_text ys) (All-head (IsRow segments) a xs first) (All-head (IsRow segments) b ys second) (sym (append_assoc (row_text a) (flat_map row_text xs) rest) ∙ same))

pub no_rows : HasNoRows
no_rows segments line text rows other are =
    apart segments other.rows rows other.rest other.before.each are.each other.some other.none
    (ap (λ (t : List ℕ). t ++ other.rest) (sym other.before.lines) ∙ sym other.both ∙ are.lines)

-- ---- the segment of a line

-- what the words of a line tell
pub record Reads (line : List ℕ) (vid : ℕ) : Type 0 where
  pub kind : word line ≡ codes "segment"
  pub some : 0 < length (behind (behind line))
  pub number : number_of (word (behind line)) ≡ Some vid

-- a text around its first space
around : (t : List ℕ) → 0 < length (behind t) → t ≡ word t ++ 32 ∷ behind t
around [] some = absurd (omega (arith, some))
around (c ∷ cs) some = by (eqb c 32) refl some (λ h. around cs h)
  where
    by : (b : Bool) → eqb c 32 ≡ b → 0 < length (cond b cs (behind cs)) → (0 < length (behind cs) → cs ≡ word cs ++ 32 ∷ behind cs)
        → c ∷ cs ≡ cond b [] (c ∷ word cs) ++ 32 ∷ cond b cs (behind cs)
    by true is h more = ap (λ x. x ∷ cs) (eqb-true c 32 is)
    by false is h more = ap (λ t. c ∷ t) (more h)

behind_some : (t : List ℕ) → 0 < length (behind t) → 0 < length t
behind_some [] some = some
behind_some (c ∷ cs) some = omega arith

pub of_words : (line : List ℕ) (vid : ℕ) → Reads line vid → IsOf vid line
of_words line vid is =
    let words = behind line in
    let number : word words ≡ decimal vid = (number_exact (word words) vid is.number).1 in
    let first : line ≡ word line ++ 32 ∷ words = around line (behind_some words is.some) in
    let second : words ≡ word words ++ 32 ∷ behind words = around words is.some in
    record {
      told = behind words;
      some = is.some;
      begins = first ∙ ap (λ t. t ++ 32 ∷ words) is.kind ∙ ap (λ t. codes "segment " ++ t) (second ∙ ap (λ t. t ++ 32 ∷ behind words) number);
    }

no_space : IsNoDigit 32
no_space d low e = omega (arith, e)

-- the words behind that of a line of tables
words_told : (vid : ℕ) (told : List ℕ) → vid < 2 ^ 64 → 0 < length told → Reads (codes "segment " ++ decimal vid ++ 32 ∷ told) vid
words_told vid told low some =
    let without = lacks_decimal 32 vid no_space low in
    record {
      kind = refl;
      some = subst (λ (t : List ℕ). 0 < length t) (sym (behind_front (decimal vid) told without)) some;
      number = ap number_of (word_front (decimal vid) told without) ∙ number_decimal vid low;
    }

pub words_of : (line : List ℕ) (vid : ℕ) → vid < 2 ^ 64 → IsOf vid line → Reads line vid
words_of line vid low is = subst (λ (t : List ℕ). Reads t vid) (sym is.begins) (words_told vid is.told low is.some)

-- a line is of one segment
pub one_segment : (line : List ℕ) (a b : ℕ) → a < 2 ^ 64 → b < 2 ^ 64 → IsOf a line → IsOf b line → a ≡ b
one_segment line a b first second is other = some_same (sym (words_of line a first is).number ∙ (words_of line b second other).number)
  where
    some_same : Some a ≡ Some b → a ≡ b
    some_same e = cc

-- ---- the first line

-- a text without a line feed begins with no line
pub no_feed : (segments : Segments) (text : List ℕ) → All IsInLine text → BeginsWithNone segments text
no_feed segments text none row more is same =
    no_line row.line.now more (All-same IsInLine (row.line.now ++ 10 ∷ more) text (sym (same ∙ row_and_more row more)) none)

-- the octets in front of the first line feed, and those behind it
pub front_in_line : (text : List ℕ) (i : ℕ) → i < length text → ((k : ℕ) → k < i → get_or text k 0 ≢ 10) → All IsInLine (take i text)
front_in_line text i inside before =
    All-from_get_or IsInLine (take i text) 0
    (λ k lt.
    let below : k < i = omega (arith, lt, length-take-le i text (omega (arith, inside))) in
    subst (λ (c : ℕ). c ≢ 10) (sym (get_or-take i text k 0 below)) (before k below))

pub around_feed : (text : List ℕ) (i : ℕ) → i < length text → get_or text i 0 ≡ 10 → text ≡ take i text ++ 10 ∷ drop (i + 1) text
around_feed text i inside here =
    sym (take-append-drop i text)
    ∙ ap (λ (t : List ℕ). take i text ++ t) (drop-cons text i 0 inside)
    ∙ ap (λ (c : ℕ). take i text ++ c ∷ drop (suc i) text) here
    ∙ ap (λ (n : ℕ). take i text ++ 10 ∷ drop n text) (suc-eq-add-one i)

-- one whose first line is of no segment that is asked for begins with none, too
pub at_feed : (segments : Segments) (text : List ℕ) (i : ℕ) → i < length text → get_or text i 0 ≡ 10 → ((k : ℕ) → k < i → get_or text k 0 ≢ 10)
    → ((vid : ℕ) → IsVid vid → holds segments (Some vid) ≡ true → IsOf vid (take i text) → ⊥) → BeginsWithNone segments text
at_feed segments text i inside here before none row more is same =
    let line =
    one_line row.line.now (take i text) more (drop (i + 1) text) is.one (front_in_line text i inside before) (sym (row_and_more row more) ∙ sym same ∙ around_feed text i inside here) in
    none row.vid is.vid is.own (subst (λ (t : List ℕ). IsOf row.vid t) line.0 is.line)

-- a segment that isn't asked for
pub of_another : (segments : Segments) (line : List ℕ) (vid : ℕ) → IsVid vid → IsOf vid line → holds segments (Some vid) ≡ false
    → (other : ℕ) → IsVid other → holds segments (Some other) ≡ true → IsOf other line → ⊥
of_another segments line vid small is not other low own of =
    let same : vid ≡ other = one_segment line vid other (omega (arith, small)) (omega (arith, low)) is of in
    let twice : false ≡ true = sym not ∙ ap (λ (n : ℕ). holds segments (Some n)) same ∙ own in
    absurd cc
