-- Settings of version 1 as settings of version 2. It states no standard.
use Rattle.std.specs.Prelude.{ℕ, pos, List, Bool, true, false, if◌then◌else◌, Option, Some, None, option_map, Ok, codes}
use Rattle.std.specs.Ordering.{nat_cmp, match_ordering}
use Rattle.std.specs.Cmp.Lexicographic.{slice_cmp}
use Rattle.toml.specs.Data.{Data, integer, array, table, Items, no_items, item, Members, no_members, member, same_key, get_member}
use Rattle.config_text.specs.Fault.{Meaning}
use Rattle.config_text.specs.Table.{top}
use Rattle.overlay_config.specs.declared.version.Version.{Version}
use Rattle.overlay_config.specs.declared.version.Version.TheVariants.{One}
use Rattle.overlay_config.specs.Settings.{version_of}

-- ---- tables

-- with a value at a key, in the keys' order
abbrev pub with_value : List ℕ → Data → Members → Members
with_value k d no_members = member k d no_members
with_value k d (member l e ms) =
    match_ordering (slice_cmp nat_cmp k l) (member k d (member l e ms)) (member l d ms) (member l e (with_value k d ms))

-- with a value at a key, where there is one
abbrev pub with_option : List ℕ → Option Data → Members → Members
with_option k None ms = ms
with_option k (Some d) ms = with_value k d ms

-- without a key
abbrev pub without : List ℕ → Members → Members
without k no_members = no_members
without k (member l d ms) = if same_key k l then without k ms else member l d (without k ms)

-- ---- a segment

-- the tunnel of a segment of version 1, as a table of its own: its VNI, its kind, and its flood list where one is given
abbrev pub tunnel_table : Members → Members
tunnel_table s =
    with_option (codes "flood") (get_member (codes "flood") s)
    (with_option (codes "kind") (get_member (codes "tunnel") s)
    (with_option (codes "vni") (get_member (codes "vni") s) no_members))

-- a segment without `vni`, `tunnel` and `flood`, and with a list of one tunnel
abbrev pub migrated_segment : Members → Members
migrated_segment s =
    with_value (codes "tunnel") (array (item (table (tunnel_table s)) no_items))
    (without (codes "flood") (without (codes "tunnel") (without (codes "vni") s)))

-- an item of the list of segments
abbrev pub migrated_item : Data → Data
migrated_item (table s) = table (migrated_segment s)
migrated_item d = d

-- its items
abbrev pub migrated_items : Items → Items
migrated_items no_items = no_items
migrated_items (item d ds) = item (migrated_item d) (migrated_items ds)

-- the list of segments
abbrev pub migrated_list : Data → Data
migrated_list (array ds) = array (migrated_items ds)
migrated_list d = d

-- ---- all settings

-- with the list of segments migrated
abbrev pub migrated_segments : Members → Members
migrated_segments ms =
    with_option (codes "segment") (option_map migrated_list (get_member (codes "segment") ms)) (without (codes "segment") ms)

-- each key stays as it is but `version` and `segment`
abbrev pub version_2 : Members → Members
version_2 ms = with_value (codes "version") (integer (pos 2)) (migrated_segments ms)

-- this is version 1
abbrev pub is_one : Meaning Version → Bool
is_one (Ok One) = true
is_one _ = false

-- settings of version 1 as settings of version 2; what is no version 1 stays as it is, and so do settings of version 3
abbrev pub migrated : Members → Members
migrated ms = if is_one (version_of (top ms)) then version_2 ms else ms
