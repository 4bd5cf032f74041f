-- The limits of settings: how much of each kind an endpoint has room for. It states no standard.
use Rattle.std.specs.Prelude.{ℕ, ◌*◌, nat_lt, List, [], ◌∷◌, Ok, Err, codes}
use Rattle.overlay.specs.declared.underlay.limits.Limits.{Limits}
use Rattle.config_text.specs.declared.fault.SettingsFault.TheVariants.{OverLimit}
use Rattle.config_text.specs.Fault.{Meaning, ◌>>=◌}
use Rattle.config_text.specs.Column.{range}
use Rattle.config_text.specs.Table.{Place, path, only, defaulted, subtable, refuse_if}
use Rattle.overlay_config.specs.declared.version.Version.{Version}
use Rattle.overlay_config.specs.declared.version.Version.TheVariants.{One, Two, Three}

-- the limits where nothing else is asked for, which versions before the third always have
abbrev pub usual_limits : Limits
usual_limits = record { ports = 16; segments = 256; flood = 16; hops = 64; entries = 8192; addresses = 65536 }

-- the keys of the table `limits`
abbrev pub limit_keys : List (List ℕ)
limit_keys =
    codes "ports" ∷ codes "segments" ∷ codes "flood" ∷ codes "hops" ∷ codes "entries" ∷ codes "addresses" ∷ []

-- what the table means: a key that is absent stands for the usual limit; all segments together have so many remotes at most, where each
-- has as many as it may
unfoldable pub limits_in : Place → Meaning Limits
limits_in at = do
  known ← only at limit_keys
  ports ← defaulted at (codes "ports") (range 1 255) 16
  segments ← defaulted at (codes "segments") (range 1 4094) 256
  flood ← defaulted at (codes "flood") (range 1 512) 16
  hops ← defaulted at (codes "hops") (range 1 4096) 64
  entries ← defaulted at (codes "entries") (range 1 131072) 8192
  addresses ← defaulted at (codes "addresses") (range 1 1048576) 65536
  few ← refuse_if (nat_lt 1048576 (segments * flood)) (OverLimit (path at (codes "flood")))
  Ok (record { ports = ports; segments = segments; flood = flood; hops = hops; entries = entries; addresses = addresses })

-- the limits in force, from what stands at the top, where the table of them means this; an absent table counts as empty
abbrev pub limits_by : (Place → Meaning Limits) → Version → Place → Meaning Limits
limits_by table One top = Ok usual_limits
limits_by table Two top = Ok usual_limits
limits_by table Three top = subtable top (codes "limits") >>= table

-- the limits in force
abbrev pub limits_of : Version → Place → Meaning Limits
limits_of = limits_by limits_in

-- the most addresses that the limits say, or the most that limits may say where they mean nothing
abbrev pub addresses_in : Meaning Limits → ℕ
addresses_in (Ok limits) = limits.addresses
addresses_in (Err fault) = 1048576
