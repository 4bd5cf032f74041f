-- What settings meant before limits could be asked for: of each version at most 16 ports, 256 segments, 16 remotes of a segment and 64
-- next hops, at most 8,192 entries of a segment and 65,536 of all, and no key `limits`. And what changes meant before they could have a
-- version: at most 10,000, and no other key. It states no standard.
use Rattle.std.specs.Prelude.{ℕ, nat_lt, List, [], ◌∷◌, length, Ok, codes}
use Rattle.toml.specs.Data.{Members}
use Rattle.overlay.specs.declared.flood.own.Own.{Own}
use Rattle.overlay.specs.declared.underlay.limits.Limits.{Limits}
use Rattle.overlay.specs.UnderlaySettings.{own}
use Rattle.config_text.specs.declared.fault.SettingsFault.TheVariants.{OverLimit}
use Rattle.config_text.specs.Fault.{Meaning, ◌>>=◌}
use Rattle.config_text.specs.Column.{range}
use Rattle.config_text.specs.Table.{Place, top, only, required, subtable, limited_items, required_items, each, refuse_if}
use Rattle.overlay.specs.declared.settings.change.TimedChange.{TimedChange}
use Rattle.overlay.specs.declared.settings.segment.SegmentRule.{SegmentRule}
use Rattle.overlay.specs.Settings.{Settings, sum_of_limits}
use Rattle.overlay_config.specs.Change.{change_of}
use Rattle.overlay_config.specs.Underlay.{underlay_of}
use Rattle.overlay_config.specs.Port.{port_of}
use Rattle.overlay_config.specs.Segment.{segment_of}
use Rattle.overlay_config.specs.Settings.{given_pool_of, pool_for}
use Rattle.overlay_config.specs.Version.{Version, version_named}

-- the keys at the top
abbrev pub top_keys : List (List ℕ)
top_keys = codes "version" ∷ codes "pool" ∷ codes "underlay" ∷ codes "port" ∷ codes "segment" ∷ []

-- the limits of all settings
abbrev pub limits : Limits
limits = record { ports = 16; segments = 256; flood = 16; hops = 64; entries = 8192; addresses = 65536 }

-- beside the endpoint's own addresses and the number of its ports
unfoldable pub segments_of : Version → Own → ℕ → Place → Meaning (List SegmentRule)
segments_of version own ports at = do
  tables ← required_items at (codes "segment") 256
  segments ← each (segment_of version own limits ports) (codes "segment") [] tables
  total ← refuse_if (nat_lt 65536 (sum_of_limits segments)) (OverLimit (codes "limit"))
  Ok segments

-- the version, asked behind the names of the keys alone
unfoldable pub version_of : Place → Meaning Version
version_of at = do
  known ← only at top_keys
  number ← required at (codes "version") (range 1 3)
  Ok (version_named number)

-- what the table of a text of settings meant
unfoldable pub settings_of : Members → Meaning Settings
settings_of members = do
  version ← version_of (top members)
  given ← given_pool_of 65536 (top members)
  below ← subtable (top members) (codes "underlay")
  underlay ← underlay_of version limits below
  tables ← required_items (top members) (codes "port") 16
  ports ← each (λ earlier at. port_of at) (codes "port") [] tables
  segments ← segments_of version (own underlay) (length ports) (top members)
  pool ← pool_for given segments
  Ok (record { underlay = underlay; ports = ports; segments = segments; pool = pool })

-- what the table of a text of changes meant
unfoldable pub changes_of : Members → Meaning (List TimedChange)
changes_of members = do
  known ← only (top members) (codes "change" ∷ [])
  tables ← limited_items (top members) (codes "change") 10000
  each change_of (codes "change") [] tables
