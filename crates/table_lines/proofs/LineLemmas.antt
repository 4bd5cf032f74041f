-- Texts that are put one behind another, and the lines of one segment more.
use Rattle.std.proofs.Common.{◌≡◌, ℕ, ◌+◌, cond, Result, Ok, Err, List, [], ◌∷◌, ◌++◌, append_assoc, append-nil, refl, sym, ap, ◌∙◌}
use Rattle.std.proofs.lemmas.List.{map-id}
use Rattle.std.proofs.lemmas.List.FromFn.{map-range_with_len_more}
use Rattle.std.proofs.lemmas.Grind.{flat_map-append}
use Rattle.std.specs.Result.{OnOk, is_ok}
use Rattle.std.specs.List.{flat_map, range_with_len}
use Rattle.endpoint_core.specs.Step.{State}
use Rattle.segment_set.specs.Segments.{Segments}
use Rattle.table_lines.specs.Lines.{lines_among, tables_text, vids}

-- a text behind another is put behind what the other was put behind
behind : (t u x y : List ℕ) → u ≡ t ++ x → u ++ y ≡ t ++ (x ++ y)
behind t u x y e = ap (λ (s : List ℕ). s ++ y) e ∙ append_assoc t x y

-- what holds of a text that was put, where it was
pub put_whole : {A E : Type 0} (r : Result A E) (new text same wanted : List ℕ) → new ≡ cond (is_ok r) text same → text ≡ wanted → OnOk r (new ≡ wanted)
put_whole (Ok x) new text same wanted is h = is ∙ h
put_whole (Err x) new text same wanted is h = tt

-- six texts, one behind another
pub six_behind : (t t1 t2 t3 t4 t5 a b c d e f : List ℕ) → t1 ≡ t ++ a → t2 ≡ t1 ++ b → t3 ≡ t2 ++ c → t4 ≡ t3 ++ d → t5 ≡ t4 ++ e → t5 ++ f ≡ t ++ (a ++ (b ++ (c ++ (d ++ (e ++ f)))))
six_behind t t1 t2 t3 t4 t5 a b c d e f first second third fourth fifth =
    behind t4 t5 e f fifth ∙ behind t3 t4 d (e ++ f) fourth ∙ behind t2 t3 c (d ++ (e ++ f)) third ∙ behind t1 t2 b (c ++ (d ++ (e ++ f))) second ∙ behind t t1 a (b ++ (c ++ (d ++ (e ++ f)))) first

range_more : (n : ℕ) → range_with_len 1 (n + 1) ≡ range_with_len 1 n ++ (1 + n) ∷ []
range_more n =
    sym (map-id (range_with_len 1 (n + 1))) ∙ map-range_with_len_more (λ (k : ℕ). k) 1 n (1 + n) refl ∙ ap (λ (xs : List ℕ). xs ++ (1 + n) ∷ []) (map-id (range_with_len 1 n))

-- one segment more
pub segments_more : (q : Segments) (s : State) (n number : ℕ) → number ≡ 1 + n → flat_map (lines_among q s) (range_with_len 1 n) ++ lines_among q s number ≡ flat_map (lines_among q s) (range_with_len 1 (n + 1))
segments_more q s n number is =
    ap (λ (k : ℕ). flat_map (lines_among q s) (range_with_len 1 n) ++ lines_among q s k) is
    ∙ ap (λ (t : List ℕ). flat_map (lines_among q s) (range_with_len 1 n) ++ t) (sym (append-nil (lines_among q s (1 + n))))
    ∙ sym (flat_map-append (lines_among q s) (range_with_len 1 n) ((1 + n) ∷ []))
    ∙ sym (ap (flat_map (lines_among q s)) (range_more n))

-- all of them
pub segments_all : (q : Segments) (s : State) (n : ℕ) → n ≡ 4094 → flat_map (lines_among q s) (range_with_len 1 n) ≡ tables_text q s
unfolding vids
segments_all q s n is = ap (λ (k : ℕ). flat_map (lines_among q s) (range_with_len 1 k)) is
