-- The keys of `segment.k` that say nothing of its tunnels, `limit` to `tagged`. It states no standard.
use Rattle.std.specs.Prelude.{ℕ, Bool, min, List, [], Ok, codes}
use Rattle.overlay.specs.Flood.{Entries}
use Rattle.overlay.specs.declared.underlay.tunnels.SegmentTunnel.{SegmentTunnel}
use Rattle.overlay.specs.declared.settings.segment.SegmentRule.{SegmentRule}
use Rattle.config_text.specs.Fault.{Meaning, ◌>>=◌}
use Rattle.config_text.specs.Column.{range, gathered}
use Rattle.config_text.specs.Table.{Place, path, items, fits}
use Rattle.overlay_config.specs.declared.local_rules.LocalRules.{LocalRules}
use Rattle.overlay_config.specs.CommonRules.{common_of}
use Rattle.overlay_config.specs.Members.{put_member}

-- the member ports under a key, of so many ports and none that the other list has
unfoldable pub members_of : Place → List ℕ → ℕ → List ℕ → Meaning (List ℕ)
members_of at key ports other = items at key >>= λ ds. fits (path at key) (gathered (put_member ports other) [] ds)

-- beside whether it is version 3, the most entries of a segment and the number of the endpoint's ports
unfoldable pub local_of : Bool → ℕ → ℕ → Place → Meaning LocalRules
local_of third entries ports at = do
  common ← common_of third (min 256 entries) (range 1 entries) (range 10 1000000) at
  untagged ← members_of at (codes "untagged") ports []
  tagged ← members_of at (codes "tagged") ports untagged
  Ok (record { common = common; untagged = untagged; tagged = tagged })

-- the segment that goes by these, with its tunnels and flood list
abbrev pub with_tunnels : ℕ → List SegmentTunnel → Entries → LocalRules → SegmentRule
with_tunnels vid tunnels flood local = record {
  vid = vid;
  tunnels = tunnels;
  flood = flood;
  limit = local.common.limit;
  ageing = local.common.ageing;
  learning = local.common.learning;
  peers = local.common.peers;
  tags = local.common.tags;
  untagged = local.untagged;
  tagged = local.tagged;
}
