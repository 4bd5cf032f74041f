-- The lines of several tables, one by one, and those of one segment among them.
use Rattle.std.proofs.Common.{◌≡◌, ◌≢◌, ◌∙◌, ap, sym, refl, zero, suc, ℕ, ◌+◌, ◌<◌, ◌≤◌, arith, Bool, true, false, cond, eqb, List, [], ◌∷◌, ◌++◌, All, append_assoc, append-nil, map, subst, inl, inr, ◌⊎◌}
use Rattle.std.specs.List.{flat_map, range_with_len}
use Rattle.std.proofs.lemmas.Bool.{cases_eq, cond-false, cond-true, eq-eqb, eqb-false, eqb-true, ne_eqb}
use Rattle.std.proofs.lemmas.Grind.{flat_map-append}
use Rattle.std.proofs.lemmas.List.Elements.{All-append, All-cons, All-from_get_or, All-head, All-nil, All-tail, All-weaker}
use Rattle.std.proofs.lemmas.List.Folds.{flat_map-map}
use Rattle.std.proofs.lemmas.List.FromFn.{get_or-range_with_len, length-range_with_len}
use Rattle.wire.specs.Tag.{IsVid}
use Rattle.segment_set.specs.Segments.{Segments}
use Rattle.table_lines.specs.Lines.{vids}
use Rattle.run_counts.specs.Tables.{IsOf, IsRow, lines_of, row_text}
use Rattle.run_counts.specs.declared.parts.table_row.TableRow.{TableRow}
use Rattle.run_counts.proofs.LineLemmas.{IsInLine, one_line, one_segment}

-- ---- a segment and a line of it

abbrev pub pair_of : TableRow → ℕ × List ℕ
pair_of row = (row.vid, row.line.now)

abbrev pub pair_text : ℕ × List ℕ → List ℕ
pair_text p = p.1 ++ 10 ∷ []

pub record IsPair (p : ℕ × List ℕ) : Type 0 where
  pub vid : IsVid p.0
  pub line : IsOf p.0 p.1
  pub one : All IsInLine p.1

pair_more : (p : ℕ × List ℕ) (more : List ℕ) → pair_text p ++ more ≡ p.1 ++ 10 ∷ more
pair_more p more = append_assoc p.1 (10 ∷ []) more

no_pair : (p : ℕ × List ℕ) (more : List ℕ) → pair_text p ++ more ≡ [] → ⊥
no_pair p more same = nothing p.1 (sym (pair_more p more) ∙ same)
  where
    nothing : (line : List ℕ) → line ++ 10 ∷ more ≡ [] → ⊥
    nothing [] same = absurd cc
    nothing (c ∷ cs) same = absurd cc

-- one text is of one list of lines
pairs_one : (xs ys : List (ℕ × List ℕ)) → All IsPair xs → All IsPair ys → flat_map pair_text xs ≡ flat_map pair_text ys → xs ≡ ys
pairs_one [] [] first second same = refl
pairs_one [] (y ∷ ys) first second same = absurd (no_pair y (flat_map pair_text ys) (sym same))
pairs_one (x ∷ xs) [] first second same = absurd (no_pair x (flat_map pair_text xs) same)
pairs_one (x ∷ xs) (y ∷ ys) first second same =
    let p = All-head IsPair x xs first in
    let q = All-head IsPair y ys second in
    let line = one_line x.1 y.1 (flat_map pair_text xs) (flat_map pair_text ys) p.one q.one (sym (pair_more x (flat_map pair_text xs)) ∙ same ∙ pair_more y (flat_map pair_text ys)) in
    let vid : x.0 ≡ y.0 = one_segment x.1 x.0 y.0 (omega (arith, p.vid)) (omega (arith, q.vid)) p.line (subst (λ (t : List ℕ). IsOf y.0 t) (sym line.0) q.line) in
    let rest = pairs_one xs ys (All-tail IsPair x xs first) (All-tail IsPair y ys second) line.1 in
    (λ i. (vid i, line.0 i) ∷ rest i)

pairs_of_rows : (segments : Segments) (rows : List TableRow) → All (IsRow segments) rows → All IsPair (map pair_of rows)
pairs_of_rows segments [] is = All-nil IsPair
pairs_of_rows segments (r ∷ rs) is =
    let one = All-head (IsRow segments) r rs is in
    All-cons IsPair (pair_of r) (map pair_of rs) (record { vid = one.vid; line = one.line; one = one.one }) (pairs_of_rows segments rs (All-tail (IsRow segments) r rs is))

-- ---- the lines of one segment

-- the line of a pair, where it is of this segment
abbrev pub picked : ℕ → ℕ × List ℕ → List ℕ
picked vid p = cond (eqb p.0 vid) (pair_text p) []

-- the text of a segment, line by line
pub record Pairs (vid : ℕ) (text : List ℕ) : Type 0 where
  pub pairs : List (ℕ × List ℕ)
  pub each : All IsPair pairs
  pub own : All (λ (p : ℕ × List ℕ). p.0 ≡ vid) pairs
  pub lines : text ≡ flat_map pair_text pairs

picked_own : (vid : ℕ) (ps : List (ℕ × List ℕ)) → All (λ (p : ℕ × List ℕ). p.0 ≡ vid) ps → flat_map (picked vid) ps ≡ flat_map pair_text ps
picked_own vid [] own = refl
picked_own vid (p ∷ ps) own =
    let here : p.0 ≡ vid = All-head (λ (p : ℕ × List ℕ). p.0 ≡ vid) p ps own in
    ap (λ (t : List ℕ). t ++ flat_map (picked vid) ps) (cond-true (eqb p.0 vid) (pair_text p) [] (eq-eqb p.0 vid here))
    ∙ ap (λ (t : List ℕ). pair_text p ++ t) (picked_own vid ps (All-tail (λ (p : ℕ × List ℕ). p.0 ≡ vid) p ps own))

picked_other : (w vid : ℕ) (ps : List (ℕ × List ℕ)) → w ≢ vid → All (λ (p : ℕ × List ℕ). p.0 ≡ w) ps → flat_map (picked vid) ps ≡ []
picked_other w vid [] not own = refl
picked_other w vid (p ∷ ps) not own =
    let here : p.0 ≡ w = All-head (λ (p : ℕ × List ℕ). p.0 ≡ w) p ps own in
    ap (λ (t : List ℕ). t ++ flat_map (picked vid) ps) (cond-false (eqb p.0 vid) (pair_text p) [] (ne_eqb p.0 vid (λ e. not (sym here ∙ e))))
    ∙ picked_other w vid ps not (All-tail (λ (p : ℕ × List ℕ). p.0 ≡ w) p ps own)

picked_of : (w vid : ℕ) (text : List ℕ) (one : Pairs w text) → flat_map (picked vid) one.pairs ≡ cond (eqb w vid) text []
picked_of w vid text one = by (eqb w vid) refl
  where
    by : (b : Bool) → eqb w vid ≡ b → flat_map (picked vid) one.pairs ≡ cond b text []
    by true is =
        picked_own vid one.pairs (All-weaker (λ (p : ℕ × List ℕ). p.0 ≡ w) (λ (p : ℕ × List ℕ). p.0 ≡ vid) (λ p e. e ∙ eqb-true w vid is) one.pairs one.own) ∙ sym one.lines
    by false is = picked_other w vid one.pairs (eqb-false w vid is) one.own

-- those of several segments
pub record PairsOf (f : ℕ → List ℕ) (ws : List ℕ) : Type 0 where
  pub pairs : List (ℕ × List ℕ)
  pub each : All IsPair pairs
  pub text : flat_map f ws ≡ flat_map pair_text pairs
  pub one : (vid : ℕ) → flat_map (picked vid) pairs ≡ flat_map (λ (w : ℕ). cond (eqb w vid) (f w) []) ws

all_pairs : (f : ℕ → List ℕ) (ws : List ℕ) → All (λ (w : ℕ). Pairs w (f w)) ws → PairsOf f ws
all_pairs f [] each = record { pairs = []; each = All-nil IsPair; text = refl; one = λ vid. refl }
all_pairs f (w ∷ ws) each =
    let here = All-head (λ (w : ℕ). Pairs w (f w)) w ws each in
    let more = all_pairs f ws (All-tail (λ (w : ℕ). Pairs w (f w)) w ws each) in
    record {
      pairs = here.pairs ++ more.pairs;
      each = All-append IsPair here.pairs more.pairs here.each more.each;
      text = ap (λ (t : List ℕ). t ++ flat_map f ws) here.lines ∙ ap (λ (t : List ℕ). flat_map pair_text here.pairs ++ t) more.text ∙ sym (flat_map-append pair_text here.pairs more.pairs);
      one = λ vid. flat_map-append (picked vid) here.pairs more.pairs
          ∙ ap (λ (t : List ℕ). t ++ flat_map (picked vid) more.pairs) (picked_of w vid (f w) here)
          ∙ ap (λ (t : List ℕ). cond (eqb w vid) (f w) [] ++ t) (more.one vid);
    }

-- of a range of segments one is this
none_below : (f : ℕ → List ℕ) (a n v : ℕ) → v < a → flat_map (λ (w : ℕ). cond (eqb w v) (f w) []) (range_with_len a n) ≡ []
none_below f a zero v low = refl
none_below f a (suc n) v low =
    ap (λ (t : List ℕ). t ++ flat_map (λ (w : ℕ). cond (eqb w v) (f w) []) (range_with_len (a + 1) n)) (cond-false (eqb a v) (f a) [] (ne_eqb a v (λ e. absurd (omega (arith, e, low)))))
    ∙ none_below f (a + 1) n v (omega (arith, low))

one_within : (f : ℕ → List ℕ) (a n v : ℕ) → a ≤ v → v < a + n → flat_map (λ (w : ℕ). cond (eqb w v) (f w) []) (range_with_len a n) ≡ f v
one_within f a zero v low high = absurd (omega (arith, low, high))
one_within f a (suc n) v low high = by (cases_eq a v) (λ above. one_within f (a + 1) n v above (omega (arith, high)))
  where
    rest : List ℕ
    rest = flat_map (λ (w : ℕ). cond (eqb w v) (f w) []) (range_with_len (a + 1) n)

    by : (a ≡ v) ⊎ (a ≢ v) → (a + 1 ≤ v → rest ≡ f v) → cond (eqb a v) (f a) [] ++ rest ≡ f v
    by (inl e) more =
        ap (λ (t : List ℕ). t ++ rest) (cond-true (eqb a v) (f a) [] (eq-eqb a v e)) ∙ ap (λ (t : List ℕ). f a ++ t) (none_below f (a + 1) n v (omega (arith, e))) ∙ append-nil (f a) ∙ ap f e
    by (inr not) more = ap (λ (t : List ℕ). t ++ rest) (cond-false (eqb a v) (f a) [] (ne_eqb a v not)) ∙ more (omega (arith, low, not))

one_among : (f : ℕ → List ℕ) (n v : ℕ) → n ≡ 4094 → IsVid v → flat_map (λ (w : ℕ). cond (eqb w v) (f w) []) vids ≡ f v
unfolding vids
one_among f n v is small =
    ap (λ (k : ℕ). flat_map (λ (w : ℕ). cond (eqb w v) (f w) []) (range_with_len 1 k)) (sym is) ∙ one_within f 1 n v small.0 (omega (arith, small.1, is))

-- the rows of tables are of each segment what the tables have of it
pub told_lines : (segments : Segments) (f : ℕ → List ℕ) (rows : List TableRow) → All (λ (w : ℕ). Pairs w (f w)) vids → All (IsRow segments) rows
    → flat_map row_text rows ≡ flat_map f vids → (vid : ℕ) → IsVid vid → lines_of rows vid ≡ f vid
told_lines segments f rows each are same vid small =
    let all = all_pairs f vids each in
    let pairs : map pair_of rows ≡ all.pairs = pairs_one (map pair_of rows) all.pairs (pairs_of_rows segments rows are) all.each (flat_map-map pair_text pair_of rows ∙ same ∙ all.text) in
    sym (flat_map-map (picked vid) pair_of rows) ∙ ap (flat_map (picked vid)) pairs ∙ all.one vid ∙ one_among f 4094 vid refl small

-- ---- all segments

small_within : (n : ℕ) → n ≡ 4094 → All IsVid (range_with_len 1 n)
small_within n is =
    All-from_get_or IsVid (range_with_len 1 n) 0
    (λ i lt.
    let below : i < n = omega (arith, lt, length-range_with_len 1 n) in
    subst IsVid (sym (get_or-range_with_len 1 n i 0 below)) (omega arith, omega (arith, below, is)))

pub vids_small : All IsVid vids
unfolding vids
vids_small = small_within 4094 refl

pub flat_same : (f g : ℕ → List ℕ) (xs : List ℕ) → All IsVid xs → ((x : ℕ) → IsVid x → f x ≡ g x) → flat_map f xs ≡ flat_map g xs
flat_same f g [] small same = refl
flat_same f g (x ∷ xs) small same =
    ap (λ (t : List ℕ). t ++ flat_map f xs) (same x (All-head IsVid x xs small)) ∙ ap (λ (t : List ℕ). g x ++ t) (flat_same f g xs (All-tail IsVid x xs small) same)

pub all_small : (P : ℕ → Type 0) (xs : List ℕ) → All IsVid xs → ((x : ℕ) → IsVid x → P x) → All P xs
all_small P xs small each = All-weaker IsVid P (λ x is. each x is) xs small
