-- Texts of one part after another, with one part more.
use Rattle.std.proofs.Common.{◌≡◌, ◌∙◌, ap, sym, refl, ℕ, ◌+◌, List, [], ◌∷◌, ◌++◌, append_assoc, append-nil, codes, decimal, ne_eqb, Option, Some, None}
use Rattle.std.specs.List.{flat_map, range_with_len}
use Rattle.std.proofs.lemmas.Bool.{cond-false}
use Rattle.std.proofs.lemmas.List.{map-id}
use Rattle.std.proofs.lemmas.List.FromFn.{map-range_with_len_more}
use Rattle.std.proofs.lemmas.Grind.{flat_map-append}
use Rattle.wire.specs.Reason.{name_of, number_of}
use Rattle.wire.specs.declared.ether.reason.Reason.{Reason}
use Rattle.timeline.specs.declared.source.Tap.{Tap}
use Rattle.endpoint_core.specs.Fault.{name_of as fault_name, number_of as fault_number}
use Rattle.endpoint_core.specs.declared.state.fault.ChangeFault.{ChangeFault}
use Rattle.endpoint_core.specs.Counts.{Counts}
use Rattle.run_counts.specs.Summary.{count_line, dropped_line, flow_line, place_lines, refused_line, segment_lines, segment_word, segments_text, vids}
use Rattle.run_counts.specs.Totals.{Totals}
use Rattle.run_counts.specs.declared.flow.Flow.{Flow}

range_more : (n : ℕ) → range_with_len 1 (n + 1) ≡ range_with_len 1 n ++ (1 + n) ∷ []
range_more n =
    sym (map-id (range_with_len 1 (n + 1))) ∙ map-range_with_len_more (λ (k : ℕ). k) 1 n (1 + n) refl ∙ ap (λ (xs : List ℕ). xs ++ (1 + n) ∷ []) (map-id (range_with_len 1 n))

-- the text of one number more
pub text_more : (f : ℕ → List ℕ) (n number : ℕ) → number ≡ 1 + n → flat_map f (range_with_len 1 n) ++ f number ≡ flat_map f (range_with_len 1 (n + 1))
text_more f n number is =
    ap (λ (k : ℕ). flat_map f (range_with_len 1 n) ++ f k) is
    ∙ ap (λ (t : List ℕ). flat_map f (range_with_len 1 n) ++ t) (sym (append-nil (f (1 + n))))
    ∙ sym (flat_map-append f (range_with_len 1 n) ((1 + n) ∷ []))
    ∙ sym (ap (flat_map f) (range_more n))

-- behind what stood before
pub more_behind : (f : ℕ → List ℕ) (text now new : List ℕ) (n number : ℕ) → number ≡ 1 + n → now ≡ text ++ flat_map f (range_with_len 1 n) → new ≡ now ++ f number
    → new ≡ text ++ flat_map f (range_with_len 1 (n + 1))
more_behind f text now new n number is so put =
    put ∙ ap (λ (t : List ℕ). t ++ f number) so ∙ append_assoc text (flat_map f (range_with_len 1 n)) (f number) ∙ ap (λ (t : List ℕ). text ++ t) (text_more f n number is)

-- some texts, and then one more
pub then_one : (text so_far now new more all : List ℕ) → now ≡ text ++ so_far → new ≡ now ++ more → so_far ++ more ≡ all → new ≡ text ++ all
then_one text so_far now new more all so put is =
    put ∙ ap (λ (t : List ℕ). t ++ more) so ∙ append_assoc text so_far more ∙ ap (λ (t : List ℕ). text ++ t) is

-- those of all segments, and then those of none
pub segments_all : (counts : Counts) (n : ℕ) → n ≡ 4094 → flat_map (λ vid. segment_lines counts (Some vid)) (range_with_len 1 n) ++ segment_lines counts None ≡ segments_text counts
unfolding vids
segments_all counts n is = ap (λ (k : ℕ). flat_map (λ vid. segment_lines counts (Some vid)) (range_with_len 1 k) ++ segment_lines counts None) is

-- ---- one line

line_of : (words : List ℕ) (count : ℕ) → (count ≡ 0 → ⊥) → words ++ codes " " ++ decimal count ++ 10 ∷ [] ≡ count_line words count
unfolding count_line
line_of words count some = sym (cond-false _ _ _ (ne_eqb count 0 some))

-- texts one behind another, bracketed from the left
left_6 : (a b c d e f g : List ℕ) → a ++ (b ++ (c ++ (d ++ (e ++ (f ++ g))))) ≡ a ++ b ++ c ++ d ++ e ++ f ++ g
left_6 a b c d e f g =
    sym (append_assoc a b (c ++ (d ++ (e ++ (f ++ g))))) ∙ sym (append_assoc (a ++ b) c (d ++ (e ++ (f ++ g)))) ∙ sym (append_assoc (a ++ b ++ c) d (e ++ (f ++ g)))
    ∙ sym (append_assoc (a ++ b ++ c ++ d) e (f ++ g)) ∙ sym (append_assoc (a ++ b ++ c ++ d ++ e) f g)

left_7 : (a b c d e f g h : List ℕ) → a ++ (b ++ (c ++ (d ++ (e ++ (f ++ (g ++ h)))))) ≡ a ++ b ++ c ++ d ++ e ++ f ++ g ++ h
left_7 a b c d e f g h = sym (append_assoc a b (c ++ (d ++ (e ++ (f ++ (g ++ h)))))) ∙ left_6 (a ++ b) c d e f g h

pub refused_is : (refused : ChangeFault → ℕ) (fault : ChangeFault) (n count : ℕ) (name : List ℕ) → n ≡ fault_number fault → name ≡ fault_name fault → count ≡ refused fault → (count ≡ 0 → ⊥)
    → codes "change refused " ++ (decimal n ++ (codes " " ++ (name ++ (codes " " ++ (decimal count ++ 10 ∷ []))))) ≡ refused_line refused fault
unfolding refused_line
refused_is refused fault n count name number named counted some =
    left_6 (codes "change refused ") (decimal n) (codes " ") name (codes " ") (decimal count) (10 ∷ [])
    ∙ line_of (codes "change refused " ++ decimal n ++ codes " " ++ name) count some
    ∙ ap (λ (k : ℕ). count_line (codes "change refused " ++ decimal k ++ codes " " ++ name) count) number
    ∙ ap (λ (l : List ℕ). count_line (codes "change refused " ++ decimal (fault_number fault) ++ codes " " ++ l) count) named
    ∙ ap (λ (k : ℕ). count_line (codes "change refused " ++ decimal (fault_number fault) ++ codes " " ++ fault_name fault) k) counted

-- two texts that meet in one
meet : (a s e f rest : List ℕ) → s ++ e ≡ f → (a ++ s) ++ (e ++ rest) ≡ a ++ (f ++ rest)
meet a s e f rest is = append_assoc a s (e ++ rest) ∙ ap (λ (l : List ℕ). a ++ l) (sym (append_assoc s e rest) ∙ ap (λ (l : List ℕ). l ++ rest) is)

pub dropped_is : (counts : Counts) (segment : Option ℕ) (reason : Reason) (n count : ℕ) (name : List ℕ) → n ≡ number_of reason → name ≡ name_of reason → count ≡ counts segment n → (count ≡ 0 → ⊥)
    → (codes "segment " ++ segment_word segment ++ codes " ") ++ (codes "dropped " ++ (decimal n ++ (codes " " ++ (name ++ (codes " " ++ (decimal count ++ 10 ∷ [])))))) ≡ dropped_line counts segment reason
unfolding dropped_line
dropped_is counts segment reason n count name number named counted some =
    let front = codes "segment " ++ segment_word segment in
    meet front (codes " ") (codes "dropped ") (codes " dropped ") (decimal n ++ (codes " " ++ (name ++ (codes " " ++ (decimal count ++ 10 ∷ []))))) refl
    ∙ left_7 front (codes " dropped ") (decimal n) (codes " ") name (codes " ") (decimal count) (10 ∷ [])
    ∙ line_of (front ++ codes " dropped " ++ decimal n ++ codes " " ++ name) count some
    ∙ ap (λ (k : ℕ). count_line (front ++ codes " dropped " ++ decimal k ++ codes " " ++ name) count) number
    ∙ ap (λ (l : List ℕ). count_line (front ++ codes " dropped " ++ decimal (number_of reason) ++ codes " " ++ l) count) named
    ∙ ap (λ (k : ℕ). count_line (front ++ codes " dropped " ++ decimal (number_of reason) ++ codes " " ++ name_of reason) k) (counted ∙ ap (counts segment) number)

pub place_is : (totals : Totals) (tap : Tap) (came left : Flow) → came ≡ totals.came tap → left ≡ totals.left tap
    → flow_line tap (codes "in") came ++ flow_line tap (codes "out") left ≡ place_lines totals tap
place_is totals tap came left first second =
    ap (λ (w : Flow). flow_line tap (codes "in") w ++ flow_line tap (codes "out") left) first
    ∙ ap (λ (w : Flow). flow_line tap (codes "in") (totals.came tap) ++ flow_line tap (codes "out") w) second
