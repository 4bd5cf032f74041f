-- What a settings text means. It states no standard.
pub use Rattle.overlay.specs.Settings.{Settings}
use Rattle.std.specs.Prelude.{ℕ, nat_lt, List, [], ◌∷◌, ◌++◌, length, Bool, true, false}
use Rattle.std.specs.Prelude.{Option, Some, None, is_some, option_and_then, Ok, codes}
use Rattle.toml.specs.Data.{Members, get_member}
use Rattle.overlay.specs.declared.flood.own.Own.{Own}
use Rattle.overlay.specs.declared.underlay.limits.Limits.{Limits}
use Rattle.overlay.specs.UnderlaySettings.{own}
use Rattle.config_text.specs.declared.fault.SettingsFault.TheVariants.{OverLimit}
use Rattle.config_text.specs.Fault.{Meaning, ◌>>=◌}
use Rattle.config_text.specs.Column.{range}
use Rattle.config_text.specs.Table.{Place, top, only, required, optional, subtable, required_items, each, refuse_if}
use Rattle.overlay.specs.declared.settings.segment.SegmentRule.{SegmentRule}
use Rattle.overlay.specs.Settings.{sum_of_limits}
use Rattle.overlay_config.specs.Document.{document}
use Rattle.overlay_config.specs.Limits.{addresses_in, limits_of}
use Rattle.overlay_config.specs.Underlay.{underlay_of}
use Rattle.overlay_config.specs.Port.{port_of}
use Rattle.overlay_config.specs.Segment.{segment_of}
use Rattle.overlay_config.specs.Version.{Version, version_named}

-- the value of `version` is the number 3, whatever other keys there are
abbrev pub is_third : Place → Bool
is_third at = is_some (option_and_then (range 3 3) (get_member (codes "version") at.members))

-- the key at the top that version 3 adds
abbrev pub key_added : Bool → List (List ℕ)
key_added false = []
key_added true = codes "limits" ∷ []

-- the keys at the top, of version 3 or of another one
abbrev pub top_keys : Bool → List (List ℕ)
top_keys third = codes "version" ∷ codes "pool" ∷ key_added third ++ codes "underlay" ∷ codes "port" ∷ codes "segment" ∷ []

-- beside the limits, the endpoint's own addresses and the number of its ports
unfoldable pub segments_of : Version → Limits → Own → ℕ → Place → Meaning (List SegmentRule)
segments_of version limits own ports at = do
  tables ← required_items at (codes "segment") limits.segments
  segments ← each (segment_of version own limits ports) (codes "segment") [] tables
  total ← refuse_if (nat_lt limits.addresses (sum_of_limits segments)) (OverLimit (codes "limit"))
  Ok segments

-- the pool that is given, which the limits may not sum to more than; or else their sum
abbrev pub pool_for : Option ℕ → List SegmentRule → Meaning ℕ
pool_for None segments = Ok (sum_of_limits segments)
pool_for (Some pool) segments = refuse_if (nat_lt pool (sum_of_limits segments)) (OverLimit (codes "pool")) >>= λ enough. Ok pool

-- the version, asked behind the names of the keys alone
unfoldable pub version_of : Place → Meaning Version
version_of at = do
  known ← only at (top_keys (is_third at))
  number ← required at (codes "version") (range 1 3)
  Ok (version_named number)

-- the pool, where it is given, beside the most that it may be
abbrev pub given_pool_of : ℕ → Place → Meaning (Option ℕ)
given_pool_of most at = optional at (codes "pool") (range 1 most)

-- what the table of a text of settings means, by the limits in force and the most addresses of these
abbrev pub settings_by : (Version → Place → Meaning Limits) → (Meaning Limits → ℕ) → Members → Meaning Settings
settings_by in_force most members = do
  version ← version_of (top members)
  given ← given_pool_of (most (in_force version (top members))) (top members)
  limits ← in_force version (top members)
  below ← subtable (top members) (codes "underlay")
  underlay ← underlay_of version limits below
  tables ← required_items (top members) (codes "port") limits.ports
  ports ← each (λ earlier at. port_of at) (codes "port") [] tables
  segments ← segments_of version limits (own underlay) (length ports) (top members)
  pool ← pool_for given segments
  Ok (record { underlay = underlay; ports = ports; segments = segments; pool = pool })

-- what the table of a text of settings means
unfoldable pub settings_of : Members → Meaning Settings
settings_of members = settings_by limits_of addresses_in members

-- the settings that a text means, or its first fault
abbrev pub settings_in : List ℕ → Meaning Settings
settings_in text = document text >>= settings_of
