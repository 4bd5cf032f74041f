-- The keys `limit` to `tags`, of a segment of settings and of one that comes later. It states no standard.
use Rattle.std.specs.Prelude.{ℕ, List, [], ◌∷◌, ◌++◌, Bool, true, false, Option, Ok, codes}
use Rattle.toml.specs.Data.{Data}
use Rattle.overlay.specs.declared.underlay.segment.PeerRule.{PeerRule}
use Rattle.overlay.specs.declared.underlay.segment.PeerRule.TheVariants.{Any, Listed}
use Rattle.overlay.specs.declared.underlay.segment.TagRule.{TagRule}
use Rattle.overlay.specs.declared.underlay.segment.TagRule.TheVariants.{Drop, Pass, Never}
use Rattle.config_text.specs.Fault.{Meaning, ◌>>=◌}
use Rattle.config_text.specs.Column.{truth, one_of}
use Rattle.config_text.specs.Table.{Place, defaulted}
use Rattle.overlay_config.specs.declared.common_rules.CommonRules.{CommonRules}

-- the words of the rule on senders
abbrev pub peer_words : List (List ℕ × PeerRule)
peer_words = (codes "any", Any) ∷ (codes "listed", Listed) ∷ []

-- the words of the rule on frames that begin with a tag, of versions 1 and 2
abbrev pub tag_words : List (List ℕ × TagRule)
tag_words = (codes "drop", Drop) ∷ (codes "pass", Pass) ∷ []

-- the word that version 3 adds, and changes have
abbrev pub all_tag_words : List (List ℕ × TagRule)
all_tag_words = tag_words ++ (codes "never", Never) ∷ []

-- the rule, in version 3 or a change, or in another version
abbrev pub tags_of : Bool → Place → Meaning TagRule
tags_of false at = defaulted at (codes "tags") (one_of tag_words) Drop
tags_of true at = defaulted at (codes "tags") (one_of all_tag_words) Drop

-- beside whether it is version 3 or a change, the limit where none is given, and the columns of limits and of ageings, of
-- which settings have narrower ones than changes
unfoldable pub common_of : Bool → ℕ → (Data → Option ℕ) → (Data → Option ℕ) → Place → Meaning CommonRules
common_of all usual limits ageings at = do
  limit ← defaulted at (codes "limit") limits usual
  ageing ← defaulted at (codes "ageing") ageings 300
  learning ← defaulted at (codes "learn") truth true
  peers ← defaulted at (codes "peers") (one_of peer_words) Any
  tags ← tags_of all at
  Ok (record { limit = limit; ageing = ageing; learning = learning; peers = peers; tags = tags })
