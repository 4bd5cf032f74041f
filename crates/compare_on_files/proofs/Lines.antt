-- What a line tells: how many places at most, and the step by its facts.
use Rattle.std.proofs.Common.{◌≡◌, refl, sym, subst, ℕ, zero, suc, ◌-◌, ◌<◌, ◌≤◌, ◌^◌, Bool, true, false, cond, eqb, List, [], ◌∷◌, length, take, Option, Some, None, Result, Ok, Err, arith}
use Rattle.std.specs.List.{cons_option, filter_map}
use Rattle.timeline.specs.declared.source.Tap.{Tap}
use Rattle.line_words.specs.Words.{behind}
use Rattle.part_lines.specs.Words.{begun_by, words}
use Rattle.part_lines.specs.Sent.{has_places, sent_by, sent_in}
use Rattle.part_lines.specs.Facts.{event_of, facts_of, has_end, has_result, result_in, told_in}
use Rattle.part_lines.specs.declared.fault.LineFault.{LineFault}
use Rattle.part_lines.specs.declared.fault.LineFault.TheVariants as line_faults
use Rattle.part_lines.specs.declared.facts.LineFacts.{LineFacts}
use Rattle.part_lines.specs.declared.facts.LineFacts.TheVariants as facts
use Rattle.compare_on_files.specs.Finding.{step_by, step_of}

-- a text has at most one word more than characters
begun_few : (c : ℕ) (ws : List (List ℕ)) (n : ℕ) → length ws ≤ suc n → length (begun_by c ws) ≤ suc n
begun_few c [] n few = omega arith
begun_few c (w ∷ ws) n few = few

words_few : (text : List ℕ) → length (words text) ≤ suc (length text)
words_few [] = omega arith
words_few (c ∷ cs) = by_space (eqb c 32) (words_few cs)
  where
    by_space : (b : Bool) → length (words cs) ≤ suc (length cs) → length (cond {A = List (List ℕ)} b ([] ∷ words cs) (begun_by c (words cs))) ≤ suc (suc (length cs))
    by_space true few = omega (arith, few)
    by_space false few = begun_few c (words cs) (suc (length cs)) (omega (arith, few))

-- as many are kept at most
kept_few : (ws : List (List ℕ)) → length (filter_map sent_by ws) ≤ length ws
kept_few [] = omega arith
kept_few (w ∷ ws) = by (sent_by w) (kept_few ws)
  where
    by : (o : Option Tap) → length (filter_map sent_by ws) ≤ length ws → length (cons_option o (filter_map sent_by ws)) ≤ suc (length ws)
    by None few = omega (arith, few)
    by (Some tap) few = omega (arith, few)

behind_few : (text : List ℕ) → length (behind text) ≤ length text
behind_few [] = omega arith
behind_few (c ∷ cs) = by_space (eqb c 32) (behind_few cs)
  where
    by_space : (b : Bool) → length (behind cs) ≤ length cs → length (cond {A = List ℕ} b cs (behind cs)) ≤ suc (length cs)
    by_space true few = omega arith
    by_space false few = omega (arith, few)

result_few : (text : List ℕ) → length (sent_in (result_in text)) ≤ suc (length text)
result_few text =
    let first = behind text in
    let second = behind first in
    let third = behind second in
    let fourth = behind third in
    omega (arith, behind_few text, behind_few first, behind_few second, behind_few third, behind_few fourth, words_few (behind fourth), kept_few (words (behind fourth)))

same-places : (m n : ℕ) (ps qs : List Tap) → ◌≡◌ {A = Result LineFacts LineFault} (Ok (facts.Event m ps)) (Ok (facts.Event n qs)) → ps ≡ qs
same-places m n ps qs e = cc

few_event : (text : List ℕ) (o : Option ℕ) (number : ℕ) (places : List Tap) → ◌≡◌ {A = Result LineFacts LineFault} (Ok (facts.Event number places)) (event_of text o) → length places ≤ suc (length text)
few_event text None number places e = absurd cc
few_event text (Some n) number places e = by_fields (has_result text) e
  where
    by_places : (b : Bool) → ◌≡◌ {A = Result LineFacts LineFault} (Ok (facts.Event number places)) (cond b (Ok (facts.Event n (sent_in (result_in text)))) (Err line_faults.Place)) → length places ≤ suc (length text)
    by_places true e = subst (λ (ps : List Tap). length ps ≤ suc (length text)) (sym (same-places number n places (sent_in (result_in text)) e)) (result_few text)
    by_places false e = absurd cc

    by_fields : (b : Bool) → ◌≡◌ {A = Result LineFacts LineFault} (Ok (facts.Event number places)) (cond b (cond (has_places (result_in text)) (Ok (facts.Event n (sent_in (result_in text)))) (Err line_faults.Place)) (Err line_faults.Fields)) → length places ≤ suc (length text)
    by_fields true e = by_places (has_places (result_in text)) e
    by_fields false e = absurd cc

few_told : (text : List ℕ) (number : ℕ) (places : List Tap) → ◌≡◌ {A = Result LineFacts LineFault} (Ok (facts.Event number places)) (told_in text) → length places ≤ suc (length text)
few_told text number places e = by_cut _ _ e
  where
    by_cut : (b : Bool) (o : Option ℕ) → ◌≡◌ {A = Result LineFacts LineFault} (Ok (facts.Event number places)) (cond b (Ok facts.Cut) (event_of text o)) → length places ≤ suc (length text)
    by_cut true o e = absurd cc
    by_cut false o e = few_event text o number places e

take_few : (n : ℕ) (text : List ℕ) → length (take n text) ≤ length text
take_few zero text = omega arith
take_few (suc n) [] = omega arith
take_few (suc n) (c ∷ cs) = omega (arith, take_few n cs)

-- a line of 131,072 octets at most tells of fewer places than a u64 counts
pub few_places : (text : List ℕ) (number : ℕ) (places : List Tap) → ◌≡◌ {A = Result LineFacts LineFault} (Ok (facts.Event number places)) (facts_of text) → length text ≤ 131072 → length places < 2 ^ 64
unfolding facts_of
few_places text number places e short = by_end (has_end text) e
  where
    by_end : (b : Bool) → ◌≡◌ {A = Result LineFacts LineFault} (Ok (facts.Event number places)) (cond b (told_in (take (length text - 1) text)) (Err line_faults.NoEnd)) → length places < 2 ^ 64
    by_end true e = omega (arith, few_told (take (length text - 1) text) number places e, take_few (length text - 1) text, short)
    by_end false e = absurd cc

-- a line with octets tells what its facts do
pub told_by_facts : (tap : Tap) (last : ℕ) (line : List ℕ) → 0 < length line → step_by tap last line ≡ step_of tap last (facts_of line)
told_by_facts tap last [] some = absurd (omega (arith, some))
told_by_facts tap last (c ∷ cs) some = refl
