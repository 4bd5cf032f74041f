-- The tables of the parts of a run, put together.
use Rattle.std.proofs.Common.{◌≡◌, ◌∙◌, ap, sym, refl, ℕ, ◌+◌, ◌/◌, ◌%◌, ◌<◌, arith, ◌≢◌, Bool, true, false, cond, eqb, List, [], ◌∷◌, ◌++◌, All, length, append_assoc, append-nil, length-append, Some}
use Rattle.std.specs.Prelude.{codes, decimal, count_by, nat_lt}
use Rattle.std.specs.FinMap.{entries}
use Rattle.std.specs.List.{AllZip, flat_map}
use Rattle.std.proofs.lemmas.Bool.{eqb-false}
use Rattle.std.proofs.lemmas.Grind.{flat_map-append}
use Rattle.std.proofs.lemmas.List.Sums.{sum_by-cons}
use Rattle.std.proofs.lemmas.List.Elements.{All-append, All-cons, All-head, All-nil, All-tail}
use Rattle.wire.specs.Octets.{octet}
use Rattle.wire.specs.Tag.{IsVid}
use Rattle.segment_set.specs.Segments.{All as AllSegments, Segments, holds}
use Rattle.filter_db.specs.declared.entry.Entry.{Entry}
use Rattle.endpoint_core.specs.Step.{State, has_two_tunnels}
use Rattle.endpoint_core.specs.Text.{hex_digit, hex_octet, place_text}
use Rattle.line_words.proofs.Decimals.{IsNoDigit, lacks, lacks_decimal}
use Rattle.table_lines.specs.Lines.{entry_line, lines_among, mac_text, seen_text, segment_lines, tables_text, vids}
use Rattle.run_counts.specs.Tables.{AreRows, IsOf, lines_of, row_text}
use Rattle.run_counts.specs.Whole.{AreWhole, HasLines, IsToldInLine}
use Rattle.run_counts.specs.declared.parts.table_row.TableRow.{TableRow}
use Rattle.run_counts.proofs.LineLemmas.{IsInLine}
use Rattle.run_counts.proofs.Together.{IsPair, Pairs, all_small, flat_same, told_lines, vids_small}

-- ---- an entry's line

all_lacking : (t : List ℕ) → lacks 10 t ≡ true → All IsInLine t
all_lacking [] h = All-nil IsInLine
all_lacking (c ∷ cs) h = by (eqb c 10) refl h (λ k. all_lacking cs k)
  where
    by : (b : Bool) → eqb c 10 ≡ b → cond b false (lacks 10 cs) ≡ true → (lacks 10 cs ≡ true → All IsInLine cs) → All IsInLine (c ∷ cs)
    by true is k more = absurd cc
    by false is k more = All-cons IsInLine c cs (eqb-false c 10 is) (more k)

digit_in_line : (d : ℕ) → IsInLine (hex_digit d)
digit_in_line d = by (nat_lt d 10)
  where
    by : (b : Bool) → cond b (48 + d) (87 + d) ≢ 10
    by true e = omega (arith, e)
    by false e = omega (arith, e)

octet_in_line : (n : ℕ) → All IsInLine (hex_octet n)
octet_in_line n = All-cons IsInLine (hex_digit (n / 16)) (hex_digit (n % 16) ∷ []) (digit_in_line (n / 16)) (All-cons IsInLine (hex_digit (n % 16)) [] (digit_in_line (n % 16)) (All-nil IsInLine))

-- octets behind a colon
behind_colon : (n : ℕ) (t : List ℕ) → All IsInLine t → All IsInLine (hex_octet n ++ 58 ∷ t)
behind_colon n t more = All-append IsInLine (hex_octet n) (58 ∷ t) (octet_in_line n) (All-cons IsInLine 58 t (λ e. omega (arith, e)) more)

mac_in_line : (mac : List ℕ) → All IsInLine (mac_text mac)
unfolding mac_text
mac_in_line mac =
    let fifth : List ℕ = hex_octet (octet 5 mac) in
    let fourth : List ℕ = hex_octet (octet 4 mac) ++ 58 ∷ fifth in
    let third : List ℕ = hex_octet (octet 3 mac) ++ 58 ∷ fourth in
    let second : List ℕ = hex_octet (octet 2 mac) ++ 58 ∷ third in
    let first : List ℕ = hex_octet (octet 1 mac) ++ 58 ∷ second in
    behind_colon (octet 0 mac) first
    (behind_colon (octet 1 mac) second
    (behind_colon (octet 2 mac) third (behind_colon (octet 3 mac) fourth (behind_colon (octet 4 mac) fifth (octet_in_line (octet 5 mac))))))

behind_space : (a b : List ℕ) → All IsInLine a → All IsInLine b → All IsInLine (a ++ 32 ∷ b)
behind_space a b first second = All-append IsInLine a (32 ∷ b) first (All-cons IsInLine 32 b (λ e. omega (arith, e)) second)

-- what stands behind the segment
told : Bool → ℕ → List ℕ × Entry → List ℕ
told two now row = mac_text row.0 ++ (32 ∷ (place_text two row.1.place ++ (32 ∷ seen_text now row.1.last)))

told_in_line : (two : Bool) (now : ℕ) (row : List ℕ × Entry) → IsToldInLine two now row → All IsInLine (told two now row)
unfolding told
told_in_line two now row is =
    behind_space (mac_text row.0) (place_text two row.1.place ++ (32 ∷ seen_text now row.1.last)) (mac_in_line row.0)
    (behind_space (place_text two row.1.place) (seen_text now row.1.last) is.0 is.1)

-- texts put one behind another
one_behind : (a b m p s : List ℕ) → ((((((a ++ b) ++ (32 ∷ [])) ++ m) ++ (32 ∷ [])) ++ p) ++ (32 ∷ [])) ++ s ≡ a ++ (b ++ (32 ∷ (m ++ (32 ∷ (p ++ (32 ∷ s))))))
one_behind a b m p s =
    append_assoc (((((a ++ b) ++ (32 ∷ [])) ++ m) ++ (32 ∷ [])) ++ p) (32 ∷ []) s
    ∙ append_assoc ((((a ++ b) ++ (32 ∷ [])) ++ m) ++ (32 ∷ [])) p (32 ∷ s)
    ∙ append_assoc (((a ++ b) ++ (32 ∷ [])) ++ m) (32 ∷ []) (p ++ (32 ∷ s))
    ∙ append_assoc ((a ++ b) ++ (32 ∷ [])) m (32 ∷ (p ++ (32 ∷ s)))
    ∙ append_assoc (a ++ b) (32 ∷ []) (m ++ (32 ∷ (p ++ (32 ∷ s))))
    ∙ append_assoc a b (32 ∷ (m ++ (32 ∷ (p ++ (32 ∷ s)))))

-- the line without its line feed
entry_text : Bool → ℕ → ℕ → List ℕ × Entry → List ℕ
entry_text two now vid row = codes "segment " ++ (decimal vid ++ (32 ∷ told two now row))

entry_ends : (two : Bool) (now vid : ℕ) (row : List ℕ × Entry) → entry_line two now vid row ≡ entry_text two now vid row ++ 10 ∷ []
unfolding entry_line entry_text told
entry_ends two now vid row =
    ap (λ (t : List ℕ). t ++ 10 ∷ []) (one_behind (codes "segment ") (decimal vid) (mac_text row.0) (place_text two row.1.place) (seen_text now row.1.last))

no_feed : IsNoDigit 10
no_feed d low e = omega (arith, e)

told_some : (two : Bool) (now : ℕ) (row : List ℕ × Entry) → 0 < length (told two now row)
unfolding told
told_some two now row =
    let rest : List ℕ = place_text two row.1.place ++ (32 ∷ seen_text now row.1.last) in
    let both : length (told two now row) ≡ length (mac_text row.0) + length (32 ∷ rest) = length-append (mac_text row.0) (32 ∷ rest) in
    omega (arith, both)

entry_of : (two : Bool) (now vid : ℕ) (row : List ℕ × Entry) → IsOf vid (entry_text two now vid row)
unfolding entry_text
entry_of two now vid row = record {
  told = told two now row;
  some = told_some two now row;
  begins = refl;
}

entry_one : (two : Bool) (now vid : ℕ) (row : List ℕ × Entry) → IsVid vid → IsToldInLine two now row → All IsInLine (entry_text two now vid row)
unfolding entry_text
entry_one two now vid row small is =
    All-append IsInLine (codes "segment ") (decimal vid ++ (32 ∷ told two now row)) (all_lacking (codes "segment ") refl)
    (behind_space (decimal vid) (told two now row) (all_lacking (decimal vid) (lacks_decimal 10 vid no_feed (omega (arith, small)))) (told_in_line two now row is))

-- the lines of a segment
segment_pairs : (two : Bool) (now vid : ℕ) (rows : List (List ℕ × Entry)) → IsVid vid → All (IsToldInLine two now) rows → Pairs vid (flat_map (entry_line two now vid) rows)
segment_pairs two now vid [] small are = record { pairs = []; each = All-nil IsPair; own = All-nil (λ (p : ℕ × List ℕ). p.0 ≡ vid); lines = refl }
segment_pairs two now vid (r ∷ rs) small are =
    let is = All-head (IsToldInLine two now) r rs are in
    let more = segment_pairs two now vid rs small (All-tail (IsToldInLine two now) r rs are) in
    record {
      pairs = (vid, entry_text two now vid r) ∷ more.pairs;
      each = All-cons IsPair (vid, entry_text two now vid r) more.pairs (record { vid = small; line = entry_of two now vid r; one = entry_one two now vid r small is }) more.each;
      own = All-cons (λ (p : ℕ × List ℕ). p.0 ≡ vid) (vid, entry_text two now vid r) more.pairs refl more.own;
      lines = ap (λ (t : List ℕ). t ++ flat_map (entry_line two now vid) rs) (entry_ends two now vid r) ∙ ap (λ (t : List ℕ). (entry_text two now vid r ++ 10 ∷ []) ++ t) more.lines;
    }

among_pairs : (segments : Segments) (s : State) → HasLines s → (vid : ℕ) → IsVid vid → Pairs vid (lines_among segments s vid)
among_pairs segments s has vid small = by (holds segments (Some vid))
  where
    by : (b : Bool) → Pairs vid (cond b (segment_lines s vid) [])
    by true = segment_pairs (has_two_tunnels s.bridges.settings.overlay vid) s.moment vid (entries (s.bridges.tables vid)) small (has vid)
    by false = record { pairs = []; each = All-nil IsPair; own = All-nil (λ (p : ℕ × List ℕ). p.0 ≡ vid); lines = refl }

-- ---- parts

part_lines : (segments : Segments) (s : State) (rows : List TableRow) → HasLines s → AreRows segments rows (tables_text segments s) → (vid : ℕ) → IsVid vid
    → lines_of rows vid ≡ lines_among segments s vid
part_lines segments s rows has are vid small =
    told_lines segments (lines_among segments s) rows (all_small (λ (w : ℕ). Pairs w (lines_among segments s w)) vids vids_small (among_pairs segments s has)) are.each (sym are.lines) vid small

-- a segment's lines, where this part has it
abbrev had : ℕ → List ℕ → Segments → List ℕ
had vid text part = cond (holds part (Some vid)) text []

all_lines : (s : State) (parts : List Segments) (told : List (List TableRow)) → HasLines s → AllZip (λ part rows. AreRows part rows (tables_text part s)) parts told → (vid : ℕ) → IsVid vid
    → lines_of (flat_map (λ rows. rows) told) vid ≡ flat_map (had vid (segment_lines s vid)) parts
all_lines s [] [] has are vid small = refl
all_lines s [] (rows ∷ more) has are vid small = absurd are
all_lines s (part ∷ parts) [] has are vid small = absurd are
all_lines s (part ∷ parts) (rows ∷ more) has are vid small =
    flat_map-append (λ (row : TableRow). cond (eqb row.vid vid) (row_text row) []) rows (flat_map (λ rows. rows) more)
    ∙ ap (λ (t : List ℕ). t ++ lines_of (flat_map (λ rows. rows) more) vid) (part_lines part s rows has are.0 vid small)
    ∙ ap (λ (t : List ℕ). had vid (segment_lines s vid) part ++ t) (all_lines s parts more has are.1 vid small)

never : (vid : ℕ) (text : List ℕ) (parts : List Segments) → count_by (λ part. holds part (Some vid)) parts ≡ 0 → flat_map (had vid text) parts ≡ []
never vid text [] none = refl
never vid text (part ∷ parts) none = by (holds part (Some vid)) (sym (sum_by-cons (λ (q : Segments). cond (holds q (Some vid)) 1 0) part parts) ∙ none) (λ k. never vid text parts k)
  where
    by : (b : Bool) → cond b 1 0 + count_by (λ part. holds part (Some vid)) parts ≡ 0 → (count_by (λ part. holds part (Some vid)) parts ≡ 0 → flat_map (had vid text) parts ≡ [])
        → cond b text [] ++ flat_map (had vid text) parts ≡ []
    by true h more = absurd (omega (arith, h))
    by false h more = more (omega (arith, h))

once : (vid : ℕ) (text : List ℕ) (parts : List Segments) → count_by (λ part. holds part (Some vid)) parts ≡ 1 → flat_map (had vid text) parts ≡ text
once vid text [] one = absurd (omega (arith, one))
once vid text (part ∷ parts) one = by (holds part (Some vid)) (sym (sum_by-cons (λ (q : Segments). cond (holds q (Some vid)) 1 0) part parts) ∙ one) (λ k. once vid text parts k)
  where
    by : (b : Bool) → cond b 1 0 + count_by (λ part. holds part (Some vid)) parts ≡ 1 → (count_by (λ part. holds part (Some vid)) parts ≡ 1 → flat_map (had vid text) parts ≡ text)
        → cond b text [] ++ flat_map (had vid text) parts ≡ text
    by true h more = ap (λ (t : List ℕ). text ++ t) (never vid text parts (omega (arith, h))) ∙ append-nil text
    by false h more = more (omega (arith, h))

pub whole : AreWhole
whole s parts told has are one =
    flat_same (lines_of (flat_map (λ rows. rows) told)) (lines_among AllSegments s) vids vids_small
    (λ vid small. all_lines s parts told has are vid small ∙ once vid (segment_lines s vid) parts (one vid small))
