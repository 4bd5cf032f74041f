-- The last of some facts is put once nothing comes behind it.
use Rattle.std.proofs.Common.{◌≡◌, ◌∙◌, ap, append-nil, refl, List, [], ◌++◌, Option, Some, None}
use Rattle.std.specs.Option.{option_to_list}
use Rattle.event_story.specs.Neighbours.{folded}
use Rattle.event_story.specs.declared.fact.Fact.{Fact}

-- nothing comes behind it
alone : (begun : Option Fact) → option_to_list begun ≡ folded (option_to_list begun ++ [])
alone None = refl
alone (Some f) = refl

pub last-put : (put start told : List Fact) (begun : Option Fact)
    → ((rest : List Fact) → put ++ folded (option_to_list begun ++ rest) ≡ start ++ folded (told ++ rest))
    → put ++ option_to_list begun ≡ start ++ folded told
last-put put start told begun all =
    ap (λ (fs : List Fact). put ++ fs) (alone begun) ∙ all [] ∙ ap (λ (fs : List Fact). start ++ folded fs) (append-nil told)
