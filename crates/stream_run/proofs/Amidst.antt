-- Where a write failed amidst an event's texts.
use Rattle.std.proofs.Common.{◌≡◌, ◌∙◌, refl, sym, ap, subst, ℕ, ◌+◌, ◌≤◌, Bool, true, false, cond, List, [], ◌∷◌, ◌++◌, length, length-append, take, arith, append-nil, append_assoc, Option, Result, Ok, Err, inl}
use Rattle.std.specs.Prelude.{nat_lt}
use Rattle.std.proofs.Math.Seq.{take-append_seam}
use Rattle.std.proofs.lemmas.Bool.{ltb-true, ltb-false}
use Rattle.timeline.specs.declared.event.Event.{Event}
use Rattle.endpoint_core.specs.Decision.{Sent}
use Rattle.endpoint_core.specs.Step.{Answer, Decided, Replied}
use Rattle.capture_run.specs.Outputs.{Outputs}
use Rattle.capture_run.specs.Writing.{with_all_sent, with_answer, with_input}
use Rattle.stream_run.specs.Amidst.{PutsInOrder, StandAmidst, outcomes_of, with_first}
use Rattle.stream_run.specs.Stage.{Drains, Lead, StandBetween}
use Rattle.stream_run.specs.declared.fault.Target.{Target}
use Rattle.stream_run.proofs.Standing.{AreFronts, front_all, front_answer, front_line, fronts_self, fronts_trans, wider}

module _ (number : ℕ) (named : Option ℕ) (o : Outputs) (e : Event) (a : Answer) where
  -- the records of the first outlets
  first_sent : (j : ℕ) (front behind : List Sent) → outcomes_of a ≡ front ++ behind → j ≡ length front → with_first j number named o e a ≡ with_all_sent e.moment o front
  first_sent j front behind is at = by (nat_lt (length (outcomes_of a)) j) refl
    where
      few : j ≤ length (outcomes_of a)
      few = omega (arith, at, ap length is, length-append front behind)

      by : (b : Bool) → nat_lt (length (outcomes_of a)) j ≡ b → cond b (with_input number named o e a) (with_all_sent e.moment o (take j (outcomes_of a))) ≡ with_all_sent e.moment o front
      by true more = absurd (omega (arith, ltb-true _ _ more, few))
      by false more = ap (with_all_sent e.moment o) (ap (λ n. take n (outcomes_of a)) at ∙ ap (take (length front)) is ∙ take-append_seam front behind)

  -- behind all of them the line
  first_all : (j : ℕ) → j ≡ length (outcomes_of a) + 1 → with_first j number named o e a ≡ with_input number named o e a
  first_all j at = by (nat_lt (length (outcomes_of a)) j) refl
    where
      by : (b : Bool) → nat_lt (length (outcomes_of a)) j ≡ b → cond b (with_input number named o e a) (with_all_sent e.moment o (take j (outcomes_of a))) ≡ with_input number named o e a
      by true more = refl
      by false more = absurd (omega (arith, ltb-false _ _ more, at))

  -- an event's texts are the front of what stands behind it
  pub front_input : AreFronts o (with_input number named o e a)
  front_input = fronts_trans o (with_answer e.moment o a) _ (front_answer e.moment o a) (front_line (with_answer e.moment o a) _)

  front_first : (j : ℕ) → AreFronts o (with_first j number named o e a)
  front_first j = by (nat_lt (length (outcomes_of a)) j)
    where
      by : (b : Bool) → AreFronts o (cond b (with_input number named o e a) (with_all_sent e.moment o (take j (outcomes_of a))))
      by true = front_input
      by false = front_all e.moment o (take j (outcomes_of a))

  module _ (start new : Drains) where
    -- in front of all of them
    pub at_none : StandBetween start new o o → StandAmidst start new number named o e a
    at_none between = record {
      j = 0;
      most = omega arith;
      stands = subst (λ l. StandBetween start new l (with_first 1 number named o e a)) (sym (first_sent 0 [] (outcomes_of a) refl refl))
          (wider start new o o o (with_first 1 number named o e a) between (fronts_self o) (front_first 1) (inl between.decisions));
    }

    -- at the record of an outlet
    pub at_outlet : (front behind : List Sent) (x : Sent) → outcomes_of a ≡ front ++ x ∷ behind → StandBetween start new (with_all_sent e.moment o front) (with_all_sent e.moment o (front ++ x ∷ []))
        → StandAmidst start new number named o e a
    at_outlet front behind x is between =
        let more : length (front ++ x ∷ []) ≡ length front + 1 = length-append front (x ∷ []) in
        let first = first_sent (length front) front (x ∷ behind) is refl in
        let next = first_sent (length front + 1) (front ++ x ∷ []) behind (is ∙ sym (append_assoc front (x ∷ []) behind)) (sym more) in
        record {
          j = length front;
          most = omega (arith, ap length is, length-append front (x ∷ behind));
          stands = subst (λ l. StandBetween start new l (with_first (length front + 1) number named o e a)) (sym first)
              (subst (StandBetween start new (with_all_sent e.moment o front)) (sym next) between);
        }

    -- the records are those of all outlets
    answer_is : (a : Answer) → with_all_sent e.moment o (outcomes_of a) ≡ with_answer e.moment o a
    answer_is (Decided decision) = refl
    answer_is (Replied fault) = refl

    -- at the line
    pub at_line : StandBetween start new (with_answer e.moment o a) (with_input number named o e a) → StandAmidst start new number named o e a
    at_line between =
        let n = length (outcomes_of a) in
        let first = first_sent n (outcomes_of a) [] (sym (append-nil (outcomes_of a))) refl ∙ answer_is a in
        record {
          j = n;
          most = omega arith;
          stands = subst (λ l. StandBetween start new l (with_first (n + 1) number named o e a)) (sym first)
              (subst (StandBetween start new (with_answer e.moment o a)) (sym (first_all (n + 1) refl)) between);
        }

    -- where only the line is left to put
    pub put_at_line : {T : Type 0} (result : Result T Target) → Lead start new (with_answer e.moment o a) (with_input number named o e a) result → PutsInOrder start new number named o e a result
    put_at_line (Ok x) lead = tt
    put_at_line (Err target) lead = at_line lead.0
