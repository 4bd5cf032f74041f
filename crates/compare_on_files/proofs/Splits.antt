-- A text line by line, and the records of one event in front of the others.
use Rattle.std.proofs.Common.{◌≡◌, ◌∙◌, refl, ap, ℕ, zero, suc, ◌+◌, ◌<◌, Bool, true, false, cond, eqb, List, [], ◌∷◌, ◌++◌, length, drop, replicate, Some, arith}
use Rattle.std.specs.Prelude.{slice_get}
use Rattle.line_stream.specs.Lines.{behind_line, first_line}
use Rattle.part_lines.specs.Words.{begun_by}
use Rattle.compare_on_files.specs.Events.{lines}

-- the lines of a text are its first and those of what stands behind it
pub lines_split : (c : ℕ) (cs : List ℕ) → lines (c ∷ cs) ≡ first_line (c ∷ cs) ∷ lines (behind_line (c ∷ cs))
lines_split c [] = by_end (eqb c 10)
  where
    by_end : (b : Bool) → cond b ((c ∷ []) ∷ []) ((c ∷ []) ∷ []) ≡ cond b (c ∷ []) (c ∷ []) ∷ lines (cond b [] [])
    by_end true = refl
    by_end false = refl
lines_split c (d ∷ ds) = by_end (eqb c 10) (lines_split d ds)
  where
    by_end : (b : Bool) → lines (d ∷ ds) ≡ first_line (d ∷ ds) ∷ lines (behind_line (d ∷ ds))
        → cond b ((c ∷ []) ∷ lines (d ∷ ds)) (begun_by c (lines (d ∷ ds)))
        ≡ cond b (c ∷ []) (c ∷ first_line (d ∷ ds)) ∷ lines (cond b (d ∷ ds) (behind_line (d ∷ ds)))
    by_end true others = refl
    by_end false others = ap (begun_by c) others

-- what stands behind the first line is a rest of the text
pub behind_is_rest : (text : List ℕ) → behind_line text ≡ drop (length (first_line text)) text
behind_is_rest [] = refl
behind_is_rest (c ∷ cs) = by_end (eqb c 10) (behind_is_rest cs)
  where
    by_end : (b : Bool) → behind_line cs ≡ drop (length (first_line cs)) cs
        → cond b cs (behind_line cs) ≡ drop (length (cond b (c ∷ []) (c ∷ first_line cs))) (c ∷ cs)
    by_end true others = refl
    by_end false others = others

pub get_here : (count i number : ℕ) (others : List ℕ) → i < count → slice_get (replicate count number ++ others) i ≡ Some number
get_here zero i number others inside = absurd (omega (arith, inside))
get_here (suc count) zero number others inside = refl
get_here (suc count) (suc i) number others inside = get_here count i number others (omega (arith, inside))

pub get_behind : (count i number : ℕ) (others : List ℕ) → slice_get (replicate count number ++ others) (count + i) ≡ slice_get others i
get_behind zero i number others = let e : 0 + i ≡ i = omega arith in ap (slice_get others) e
get_behind (suc count) i number others =
    let e : suc count + i ≡ suc (count + i) = omega arith in
    ap (slice_get (number ∷ (replicate count number ++ others))) e ∙ get_behind count i number others
