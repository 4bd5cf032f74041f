-- What a walk over the options has found so far.
use Rattle.std.proofs.Common.{◌≡◌, ℕ, ◌<◌, Bool, true, false, not, ◌&&◌, cond, List, [], ◌∷◌, Option, Some, None, length, refl, sym, ap, ◌∙◌, arith}
use Rattle.std.specs.Prelude.{is_none}
use Rattle.wire.specs.First.{first}
use Rattle.wire.specs.declared.geneve.view.GeneveFault.{GeneveFault}
use Rattle.wire.specs.declared.geneve.view.GeneveFault.TheVariants.{BadOptions, CriticalOption}
use Rattle.wire.specs.GeneveOptions.{TunnelOption, accepts, allowed, split_option, with_option, options_in}
use Rattle.wire.specs.GeneveReading.{is_refused, option_faults}
use Rattle.wire.proofs.OptionsLemmas.{behind_split, options_in-split}

-- what is told of the options that are left, where those before them were all accepted or not
abbrev pub told : List (ℕ × ℕ) → Bool → Option (List TunnelOption) → Option GeneveFault
told known accepted None = Some BadOptions
told known accepted (Some options) = cond (accepted && allowed known options) None (Some CriticalOption)

pub told-first : (known : List (ℕ × ℕ)) (text : List ℕ) → told known true (options_in text) ≡ first (option_faults known text)
told-first known text = of (options_in text)
  where
    of : (read : Option (List TunnelOption)) → told known true read ≡ first ((BadOptions, is_none read) ∷ (CriticalOption, is_refused known read) ∷ [])
    of None = refl
    of (Some options) = by_cases (allowed known options)
      where
        by_cases : (b : Bool) → cond b None (Some CriticalOption) ≡ first ((CriticalOption, not b) ∷ [])
        by_cases true = refl
        by_cases false = refl

-- an option is passed over
told-with_option : (known : List (ℕ × ℕ)) (accepted : Bool) (option : TunnelOption) (read : Option (List TunnelOption))
    → told known accepted (with_option option read) ≡ told known (accepted && accepts known option.class option.kind) read
told-with_option known accepted option None = refl
told-with_option known true option (Some options) = refl
told-with_option known false option (Some options) = refl

pub told-step : (known : List (ℕ × ℕ)) (accepted : Bool) (text : List ℕ) (split : TunnelOption × List ℕ) → split_option text ≡ Some split
    → told known accepted (options_in text) ≡ told known (accepted && accepts known split.0.class split.0.kind) (options_in split.1)
told-step known accepted text split e =
    ap (told known accepted) (options_in-split text ∙ ap (λ (s : Option (TunnelOption × List ℕ)). behind_split s text) e)
    ∙ told-with_option known accepted split.0 (options_in split.1)

-- no option is left, at the end of the text and before it
told-end : (known : List (ℕ × ℕ)) (accepted : Bool) (text : List ℕ) → length text ≡ 0 → told known accepted (options_in text) ≡ cond accepted None (Some CriticalOption)
told-end known true [] e = refl
told-end known false [] e = refl
told-end known accepted (x ∷ text) e = absurd (omega arith)

pub told-ended : (known : List (ℕ × ℕ)) (accepted : Bool) (text whole : List ℕ) (b : Bool) → length text ≡ 0 → accepted ≡ b → told known accepted (options_in text) ≡ told known true (options_in whole)
    → cond b None (Some CriticalOption) ≡ first (option_faults known whole)
told-ended known accepted text whole b none is so_far =
    sym (told-end known accepted text none ∙ ap (λ (a : Bool). cond a None (Some CriticalOption)) is) ∙ so_far ∙ told-first known whole

pub told-cut : (known : List (ℕ × ℕ)) (accepted : Bool) (text : List ℕ) → split_option text ≡ None → 0 < length text → told known accepted (options_in text) ≡ Some BadOptions
told-cut known accepted [] e some = absurd (omega arith)
told-cut known accepted (x ∷ text) e some = ap (told known accepted) (options_in-split (x ∷ text) ∙ ap (λ (s : Option (TunnelOption × List ℕ)). behind_split s (x ∷ text)) e)
