-- Whole lines.
use Rattle.std.proofs.Common.{◌≡◌, ℕ, ◌-◌, ◌^◌, ◌<◌, Bool, true, false, cond, List, [], ◌∷◌, ◌++◌, length, get_or, take, Option, Some, None, Ok, Err, refl, sym, ap, ◌∙◌, arith, append_assoc, lit<, le-leb}
use Rattle.std.specs.Prelude.{codes}
use Rattle.std.specs.Fmt.{decimal}
use Rattle.std.specs.List.{AllByRecursion}
use Rattle.std.proofs.Math.Seq.{take-append_seam, get_or-append_seam}
use Rattle.std.proofs.lemmas.Bool.{eq-eqb, cond-true, cond-false}
use Rattle.std.proofs.lemmas.List.{length_push}
use Rattle.wire.specs.Octets.{is_same}
use Rattle.wire.proofs.OctetsLemmas.{is_same-true}
use Rattle.wire.specs.Reason as reason
use Rattle.wire.specs.declared.ether.reason.Reason.{Reason}
use Rattle.endpoint_core.specs.Fault as fault
use Rattle.endpoint_core.specs.declared.state.fault.ChangeFault.{ChangeFault}
use Rattle.endpoint_core.specs.declared.state.fault.ChangeFault.TheVariants.{NoSegment, NoPort, AlreadyThere, NotThere, FloodFull, TableFull, GroupAddress, OutOfRange, NoFamily, OwnAddress, SegmentThere, PoolFull, SegmentsFull, NoTunnel}
use Rattle.endpoint_core.specs.Decision.{Sent}
use Rattle.endpoint_core.specs.Text.{result_by, result_of}
use Rattle.timeline.specs.Words.{source_of, source_word, tap_word}
use Rattle.timeline.specs.declared.event.Event.{Event}
use Rattle.timeline.specs.declared.source.Source.{Source}
use Rattle.timeline.specs.declared.source.Source.TheVariants as sources
use Rattle.timeline.specs.declared.source.Tap.TheVariants.{Port, Underlay}
use Rattle.decision_lines.specs.Lines.{line, reply_text, segment_text}
use Rattle.line_words.specs.Words.{word, behind}
use Rattle.line_words.specs.Numbers.{number_of}
use Rattle.line_words.proofs.Decimals.{lacks, lacks_decimal, lacks_more, number_decimal}
use Rattle.line_words.proofs.Fronts.{behind_front, word_front}
use Rattle.part_lines.specs.Sent.{has_places, sent_in}
use Rattle.part_lines.specs.Facts.{event_of, facts_of, has_result, result_in, told_in}
use Rattle.part_lines.specs.ReadBack.{IsFront, IsOutcome, IsSource, IsVid, ReadsBackCuts, ReadsBackDecisions, ReadsBackReplies, taken_from}
use Rattle.part_lines.specs.declared.fault.LineFault.TheVariants as faults
use Rattle.part_lines.specs.declared.facts.LineFacts.TheVariants as facts
use Rattle.part_lines.proofs.Fronts.{one_more, spaces}
use Rattle.part_lines.proofs.Outcomes.{IsWord, name_word, no_space, number_small, outcomes_sound, outcomes_taken, refused_sound, refused_taken}

-- ---- the end

pub ended : (body : List ℕ) → facts_of (body ++ 10 ∷ []) ≡ told_in body
unfolding facts_of
ended body =
    let text = body ++ 10 ∷ [] in
    let last : length text - 1 ≡ length body = omega (arith, length_push body 10) in
    let feed : get_or text (length text - 1) 0 ≡ 10 = ap (λ n. get_or text n 0) last ∙ get_or-append_seam body 10 [] 0 in
    let front : take (length text - 1) text ≡ body = ap (λ n. take n text) last ∙ take-append_seam body (10 ∷ []) in
    cond-true _ _ _ (eq-eqb (get_or text (length text - 1) 0) 10 feed) ∙ ap told_in front

-- ---- six fields

unfoldable pub six : List ℕ → List ℕ → List ℕ → List ℕ → List ℕ → List ℕ → List ℕ
six a b c d s r = a ++ 32 ∷ (b ++ 32 ∷ (c ++ 32 ∷ (d ++ 32 ∷ (s ++ 32 ∷ r))))

pub flat_six : (a b c d s r : List ℕ) → a ++ 32 ∷ [] ++ b ++ 32 ∷ [] ++ c ++ 32 ∷ [] ++ d ++ 32 ∷ [] ++ ((s ++ 32 ∷ [] ++ r) ++ 10 ∷ []) ≡ six a b c d s r ++ 10 ∷ []
unfolding six
flat_six a b c d s r = simp append_assoc refl

-- words without a space
pub record AreWords (a b c d s : List ℕ) : Type 0 where
  pub first : lacks 32 a ≡ true
  pub second : lacks 32 b ≡ true
  pub third : lacks 32 c ≡ true
  pub fourth : lacks 32 d ≡ true
  pub fifth : lacks 32 s ≡ true

not_cut : (a : List ℕ) (n : ℕ) → number_of a ≡ Some n → is_same a (codes "cut") ≡ false
not_cut a n e = by (is_same a (codes "cut")) refl
  where
    by : (q : Bool) → is_same a (codes "cut") ≡ q → q ≡ false
    by false h = refl
    by true h = let none : None ≡ Some n = sym (ap number_of (is_same-true a (codes "cut") h)) ∙ e in absurd cc

result_six : (a b c d s r : List ℕ) → AreWords a b c d s → result_in (six a b c d s r) ≡ r
unfolding six
result_six a b c d s r w =
    ap (λ t. behind (behind (behind (behind t)))) (behind_front a _ w.first)
    ∙ ap (λ t. behind (behind (behind t))) (behind_front b _ w.second)
    ∙ ap (λ t. behind (behind t)) (behind_front c _ w.third)
    ∙ ap behind (behind_front d _ w.fourth)
    ∙ behind_front s r w.fifth

has_six : (a b c d s r : List ℕ) → has_result (six a b c d s r) ≡ true
unfolding six
has_six a b c d s r =
    le-leb 5 (spaces (a ++ 32 ∷ (b ++ 32 ∷ (c ++ 32 ∷ (d ++ 32 ∷ (s ++ 32 ∷ r))))))
    (one_more a _ 4 (one_more b _ 3 (one_more c _ 2 (one_more d _ 1 (one_more s r 0 (omega arith))))))

word_six : (a b c d s r : List ℕ) → lacks 32 a ≡ true → word (six a b c d s r) ≡ a
unfolding six
word_six a b c d s r h = word_front a (b ++ 32 ∷ (c ++ 32 ∷ (d ++ 32 ∷ (s ++ 32 ∷ r)))) h

-- what a line tells whose first word and result are known
told_by : (body a r : List ℕ) (n : ℕ) → word body ≡ a → number_of a ≡ Some n → has_result body ≡ true → result_in body ≡ r → has_places r ≡ true → told_in body ≡ Ok (facts.Event n (sent_in r))
told_by body a r n begins e has ends sound =
    ap (λ t. cond (is_same t (codes "cut")) (Ok facts.Cut) (event_of body (number_of t))) begins
    ∙ cond-false (is_same a (codes "cut")) (Ok facts.Cut) (event_of body (number_of a)) (not_cut a n e)
    ∙ ap (event_of body) e
    ∙ cond-true (has_result body) (cond (has_places (result_in body)) (Ok (facts.Event n (sent_in (result_in body)))) (Err faults.Place)) (Err faults.Fields) has
    ∙ cond-true (has_places (result_in body)) (Ok (facts.Event n (sent_in (result_in body)))) (Err faults.Place) (ap has_places ends ∙ sound)
    ∙ ap (λ t. Ok (facts.Event n (sent_in t))) ends

told_six : (a b c d s r : List ℕ) (n : ℕ) → AreWords a b c d s → number_of a ≡ Some n → has_places r ≡ true → told_in (six a b c d s r) ≡ Ok (facts.Event n (sent_in r))
told_six a b c d s r n w e sound = told_by (six a b c d s r) a r n (word_six a b c d s r w.first) e (has_six a b c d s r) (result_six a b c d s r w) sound

-- ---- the fields

source_lacks : (source : Source) → IsSource source → lacks 32 (source_word source) ≡ true
source_lacks sources.Changes h = refl
source_lacks (sources.Tap (Port port)) h = lacks_more 32 (codes "p") (decimal port) refl (lacks_decimal 32 port no_space (omega (arith, h)))
source_lacks (sources.Tap Underlay) h = refl

segment_lacks : (vid : Option ℕ) → IsVid vid → lacks 32 (segment_text vid) ≡ true
segment_lacks (Some vid) h = lacks_decimal 32 vid no_space (omega (arith, h))
segment_lacks None h = refl

line_told : (number : ℕ) (e : Event) (vid : Option ℕ) (r : List ℕ) → IsFront number e → IsVid vid → has_places r ≡ true → facts_of (line number e (segment_text vid ++ codes " " ++ r)) ≡ Ok (facts.Event number (sent_in r))
line_told number e vid r f v sound =
    ap facts_of (flat_six (decimal number) (decimal e.moment) (source_word (source_of e.happening)) (decimal e.number) (segment_text vid) r)
    ∙ ended (six (decimal number) (decimal e.moment) (source_word (source_of e.happening)) (decimal e.number) (segment_text vid) r)
    ∙ told_six (decimal number) (decimal e.moment) (source_word (source_of e.happening)) (decimal e.number) (segment_text vid) r number
    (record {
      first = lacks_decimal 32 number no_space f.number;
      second = lacks_decimal 32 e.moment no_space f.moment;
      third = source_lacks (source_of e.happening) f.source;
      fourth = lacks_decimal 32 e.number no_space f.own;
      fifth = segment_lacks vid v;
    })
    (number_decimal number f.number) sound

-- ---- the results

result_taken : (two : Bool) (dropped : Option Reason) (os : List Sent) → AllByRecursion IsOutcome os → sent_in (result_by two dropped os) ≡ taken_from dropped os
result_taken two None os all = outcomes_taken two os all
result_taken two (Some why) os all = refused_taken (codes "drop") (reason.name_of why) (reason.number_of why) (refl, refl) (name_word why) (number_small why)

result_sound : (two : Bool) (dropped : Option Reason) (os : List Sent) → AllByRecursion IsOutcome os → has_places (result_by two dropped os) ≡ true
result_sound two None os all = outcomes_sound two os all
result_sound two (Some why) os all = refused_sound (codes "drop") (reason.name_of why) (reason.number_of why) (refl, refl) (name_word why) (number_small why)

fault_word : (f : ChangeFault) → IsWord (fault.name_of f)
fault_word NoSegment = (refl, refl)
fault_word NoPort = (refl, refl)
fault_word AlreadyThere = (refl, refl)
fault_word NotThere = (refl, refl)
fault_word FloodFull = (refl, refl)
fault_word TableFull = (refl, refl)
fault_word GroupAddress = (refl, refl)
fault_word OutOfRange = (refl, refl)
fault_word NoFamily = (refl, refl)
fault_word OwnAddress = (refl, refl)
fault_word SegmentThere = (refl, refl)
fault_word PoolFull = (refl, refl)
fault_word SegmentsFull = (refl, refl)
fault_word NoTunnel = (refl, refl)

fault_small : (f : ChangeFault) → fault.number_of f < 2 ^ 64
fault_small NoSegment = lit< tt
fault_small NoPort = lit< tt
fault_small AlreadyThere = lit< tt
fault_small NotThere = lit< tt
fault_small FloodFull = lit< tt
fault_small TableFull = lit< tt
fault_small GroupAddress = lit< tt
fault_small OutOfRange = lit< tt
fault_small NoFamily = lit< tt
fault_small OwnAddress = lit< tt
fault_small SegmentThere = lit< tt
fault_small PoolFull = lit< tt
fault_small SegmentsFull = lit< tt
fault_small NoTunnel = lit< tt

reply_taken : (f : Option ChangeFault) → sent_in (reply_text f) ≡ []
reply_taken None = refl
reply_taken (Some f) = refused_taken (codes "refused") (fault.name_of f) (fault.number_of f) (refl, refl) (fault_word f) (fault_small f)

reply_sound : (f : Option ChangeFault) → has_places (reply_text f) ≡ true
reply_sound None = refl
reply_sound (Some f) = refused_sound (codes "refused") (fault.name_of f) (fault.number_of f) (refl, refl) (fault_word f) (fault_small f)

-- ---- the laws

pub decisions : ReadsBackDecisions
decisions number e d f v all = line_told number e d.segment (result_of d) f v (result_sound d.two_tunnels d.dropped d.outcomes all) ∙ ap (λ t. Ok (facts.Event number t)) (result_taken d.two_tunnels d.dropped d.outcomes all)

pub replies : ReadsBackReplies
replies number e named f front v = line_told number e named (reply_text f) front v (reply_sound f) ∙ ap (λ t. Ok (facts.Event number t)) (reply_taken f)

pub cuts : ReadsBackCuts
cuts cut = ended (codes "cut " ++ tap_word cut.tap ++ codes " " ++ decimal cut.whole)
