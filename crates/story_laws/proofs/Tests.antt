-- Which tests are told.
use Rattle.std.proofs.Common.{◌≡◌, ◌∙◌, refl, sym, ap, ℕ, ◌==◌, Bool, true, false, cond, List, [], ◌∷◌, ◌++◌, Option, Some, None, append_assoc, append-nil}
use Rattle.std.specs.List.{AllByRecursion, flat_map}
use Rattle.std.specs.Option.{option_to_list}
use Rattle.std.proofs.lemmas.Bool.{eq-eqb, cond-true, cond-false}
use Rattle.wire.specs.Reason.{number_of}
use Rattle.wire.specs.declared.ether.reason.Reason.{Reason}
use Rattle.event_story.specs.Tests.{told}
use Rattle.event_story.specs.declared.fact.Fact.{Fact}

pub refused-told : (saw : Reason → Option Fact) (reason test : Reason) (before behind : List Reason) → AllByRecursion (λ t. (number_of reason == number_of t) ≡ false) before
    → number_of reason ≡ number_of test
    → told saw (Some reason) (before ++ test ∷ behind) ≡ flat_map (λ t. option_to_list (saw t)) before ++ option_to_list (saw test)
refused-told saw reason test [] behind none same =
    ap (λ l. option_to_list (saw test) ++ l) (cond-true _ _ _ (eq-eqb (number_of reason) (number_of test) same)) ∙ append-nil (option_to_list (saw test))
refused-told saw reason test (t ∷ ts) behind none same =
    ap (λ l. option_to_list (saw t) ++ l) (cond-false _ _ _ none.0 ∙ refused-told saw reason test ts behind none.1 same)
    ∙ append-back (option_to_list (saw t)) (flat_map (λ t. option_to_list (saw t)) ts) (option_to_list (saw test))
  where
    append-back : (a b c : List Fact) → a ++ (b ++ c) ≡ (a ++ b) ++ c
    append-back a b c = sym (append_assoc a b c)

pub taken-told : (saw : Reason → Option Fact) (tests : List Reason) → told saw None tests ≡ flat_map (λ t. option_to_list (saw t)) tests
taken-told saw [] = refl
taken-told saw (t ∷ ts) = ap (λ l. option_to_list (saw t) ++ l) (taken-told saw ts)
