-- The counts of the machine are how often each thing was decided.
use Rattle.std.proofs.Common.{◌≡◌, ℕ, ◌+◌, ◌≤◌, Bool, true, false, cond, refl, sym, ap, ◌∙◌, subst, Option, List, [], ◌∷◌, ◌++◌, min, arith, zero-add}
use Rattle.std.specs.List.{flat_map, count_by}
use Rattle.std.proofs.Math.Path.{fun_ext}
use Rattle.std.proofs.lemmas.List.Sums.{sum_by-append, sum_by-cons}
use Rattle.endpoint_core.specs.Settings.{Settings}
use Rattle.endpoint_core.specs.Counts.{Mark, Counts, marks_of, most, is_mark, one_more, counted_all, tally}
use Rattle.endpoint_core.specs.Event.{Event, IsRising}
use Rattle.endpoint_core.specs.Step.{State, opened, answer, after, answers, state_after, Answer, Decided, Replied, counts_after}
use Rattle.endpoint_core.specs.Run.{decisions, decided_of_all}
use Rattle.endpoint_core.proofs.Runs.{answers-decisions}

capped : (top n b : ℕ) (c : Bool) → n ≤ top → min top (cond c (min top (n + 1)) n + b) ≡ min top (n + (cond c 1 0 + b))
capped top n b true h = omega arith
capped top n b false h = omega arith

below : (top n : ℕ) (c : Bool) → n ≤ top → cond c (min top (n + 1)) n ≤ top
below top n true h = omega arith
below top n false h = h

at_rest : (top n : ℕ) → n ≤ top → n ≡ min top (n + 0)
at_rest top n h = omega arith

min_top : (top n : ℕ) → min top n ≤ top
min_top top n = omega arith

twice : (top n a b c : ℕ) → c ≡ min top (n + a) → min top (c + b) ≡ min top (n + (a + b))
twice top n a b c e = omega arith

count-cons : (segment : Option ℕ) (n : ℕ) (m : Mark) (ms : List Mark) → count_by (is_mark segment n) (m ∷ ms) ≡ cond (is_mark segment n m) 1 0 + count_by (is_mark segment n) ms
count-cons segment n m ms = sum_by-cons (λ x. cond (is_mark segment n x) 1 0) m ms

counted_all-count : (counts : Counts) (ms : List Mark) (segment : Option ℕ) (n : ℕ) → counts segment n ≤ most → counted_all counts ms segment n ≡ min most (counts segment n + count_by (is_mark segment n) ms)
counted_all-count counts [] segment n h = at_rest most (counts segment n) h
counted_all-count counts (m ∷ ms) segment n h =
    counted_all-count (one_more counts m) ms segment n (below most (counts segment n) (is_mark segment n m) h)
    ∙ capped most (counts segment n) (count_by (is_mark segment n) ms) (is_mark segment n m) h
    ∙ ap (λ (k : ℕ). min most (counts segment n + k)) (sym (count-cons segment n m ms))

-- what is counted of an answer
marks_in : Answer → List Mark
marks_in (Decided decision) = marks_of decision
marks_in (Replied fault) = []

counts_after-marks : (counts : Counts) (a : Answer) → counts_after counts a ≡ counted_all counts (marks_in a)
unfolding marks_in
counts_after-marks counts (Decided decision) = refl
counts_after-marks counts (Replied fault) = refl

marks-cons : (a : Answer) (others : List Answer) → flat_map marks_of (decided_of_all (a ∷ others)) ≡ marks_in a ++ flat_map marks_of (decided_of_all others)
unfolding marks_in
marks-cons (Decided decision) others = refl
marks-cons (Replied fault) others = refl

counts-run : (s : State) (es : List Event) (segment : Option ℕ) (n : ℕ) → s.counts segment n ≤ most → (state_after s es).counts segment n ≡ min most (s.counts segment n + count_by (is_mark segment n) (flat_map marks_of (decided_of_all (answers s es))))
counts-run s [] segment n h = at_rest most (s.counts segment n) h
counts-run s (e ∷ es) segment n h =
    let rest : List Mark = flat_map marks_of (decided_of_all (answers (after s e) es)) in
    let step : counts_after s.counts (answer s e) segment n ≡ min most (s.counts segment n + count_by (is_mark segment n) (marks_in (answer s e))) =
    ap (λ (f : Counts). f segment n) (counts_after-marks s.counts (answer s e)) ∙ counted_all-count s.counts (marks_in (answer s e)) segment n h in
    counts-run (after s e) es segment n (subst (λ (k : ℕ). k ≤ most) (sym step) (min_top most _))
    ∙ twice most (s.counts segment n) (count_by (is_mark segment n) (marks_in (answer s e))) (count_by (is_mark segment n) rest) _ step
    ∙ ap (λ (k : ℕ). min most (s.counts segment n + k)) (sym (sum_by-append (λ m. cond (is_mark segment n m) 1 0) (marks_in (answer s e)) rest))
    ∙ ap (λ (ms : List Mark). min most (s.counts segment n + count_by (is_mark segment n) ms)) (sym (marks-cons (answer s e) (answers (after s e) es)))

pub counts-tally : (S : Settings) (es : List Event) → IsRising 0 es → (state_after (opened S) es).counts ≡ tally (decided_of_all (decisions S [] es))
counts-tally S es rising =
    fun_ext (λ segment. fun_ext (λ n.
    counts-run (opened S) es segment n (omega arith)
    ∙ ap (min most) (zero-add (count_by (is_mark segment n) (flat_map marks_of (decided_of_all (answers (opened S) es)))))
    ∙ ap (λ (list : List Answer). tally (decided_of_all list) segment n) (answers-decisions S [] es rising)))
