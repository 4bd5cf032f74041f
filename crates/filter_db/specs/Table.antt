-- A forwarding table (IEEE 802.1Q, 8.8, "The Filtering Database"): a finite map from MAC addresses to entries. Only
-- live entries count: a table that is used at a moment is first rid of what is dead then.
--     Entry      a place, with the last moment at which the address was seen there; or a fixed one
--     live      what is live at a moment (802.1Q, 8.8.3, ageing)
--     stands      where the station of an address stands
--     learn, learned_as      the learning process (802.1Q, 8.7)
--     is_full      no further address may be learned or fixed
--     fix, unfix      static entries (802.1Q, 8.8.1)
--     flush_place, flush      learned entries are forgotten
use Rattle.std.specs.Prelude.{ℕ, ◌-◌, ◌*◌, Bool, true, false, not, ◌&&◌, if◌then◌else◌, nat_lt, nat_le, is_none, List, Option, Some, None}
use Rattle.std.specs.Option.{option_map}
use Rattle.std.specs.Ordering.{nat_cmp}
use Rattle.std.specs.declared.cmp.Ordering.{Ordering}
use Rattle.std.specs.Cmp.Lexicographic.{slice_cmp}
use Rattle.std.specs.FinMap.{FinMap, get, insert, remove, retain_keys, len}
use Rattle.filter_db.specs.declared.entry.Entry.{Entry}
use Rattle.filter_db.specs.declared.place.Place.{Place}
use Rattle.filter_db.specs.declared.tables.Learned.{Learned}
use Rattle.filter_db.specs.declared.tables.Learned.TheVariants.{New, Refreshed, Moved, Fixed, Full}
use Rattle.filter_db.specs.Place.{same_place}

-- the order of addresses, octet by octet
abbrev pub mac_cmp : List ℕ → List ℕ → Ordering
mac_cmp x y = slice_cmp nat_cmp x y

-- from addresses to entries
abbrev pub Table : Type 0
Table = FinMap mac_cmp Entry

-- ---- entries

-- an entry without a last moment is a static one (802.1Q, 8.8.1)
abbrev pub is_fixed : Entry → Bool
is_fixed e = is_none e.last

-- ageings are given in seconds
abbrev pub nanoseconds : ℕ → ℕ
nanoseconds seconds = seconds * 1000000000

-- seen less than the ageing ago: an age of exactly the ageing is too old; both are in nanoseconds
abbrev pub is_young : ℕ → ℕ → Option ℕ → Bool
is_young ageing t None = true
is_young ageing t (Some last) = nat_lt (t - last) ageing

-- a learned entry is live while it is young, a fixed one always (802.1Q, 8.8.3)
abbrev pub is_live : ℕ → ℕ → Entry → Bool
is_live ageing t e = is_young ageing t e.last

-- a learned entry at this place
abbrev pub is_seen_at : Place → Entry → Bool
is_seen_at place e = not (is_fixed e) && same_place e.place place

-- ---- tables

-- there is an entry, and it passes a test
abbrev pub passes : (Entry → Bool) → Option Entry → Bool
passes p None = false
passes p (Some e) = p e

-- the entries that pass a test
unfoldable pub kept : (Entry → Bool) → Table → Table
kept p m = retain_keys m (λ mac. passes p (get m mac))

-- what counts of a table at moment t
abbrev pub live : ℕ → ℕ → Table → Table
live ageing t m = kept (is_live ageing t) m

-- where the station of an address stands
abbrev pub stands : List ℕ → Table → Option Place
stands mac m = option_map (λ (e : Entry). e.place) (get m mac)

-- what learning answers, by what stood for the address: it was new, or seen at this place, or at another, or fixed;
-- or there was no room
abbrev pub learned_over : ℕ → ℕ → Place → Option Entry → Learned
learned_over limit entries place None = if nat_lt entries limit then New else Full
learned_over limit entries place (Some e) = if is_fixed e then Fixed else if same_place e.place place then Refreshed else Moved

-- the same for an address in a table
abbrev pub learned_as : ℕ → Place → List ℕ → Table → Learned
learned_as limit place mac m = learned_over limit (len m) place (get m mac)

-- a source is learned that stands in the table and isn't fixed; another one if there are fewer entries than the limit
abbrev pub is_learned : ℕ → ℕ → Option Entry → Bool
is_learned limit entries None = nat_lt entries limit
is_learned limit entries (Some e) = not (is_fixed e)

-- a source that is learned is set to the place and the moment
abbrev pub learn : ℕ → ℕ → Place → List ℕ → Table → Table
learn limit t place mac m =
    if is_learned limit (len m) (get m mac)
    then insert m mac (record { place = place; last = Some t })
    else m

-- there is no room for this address
abbrev pub is_full : ℕ → List ℕ → Table → Bool
is_full limit mac m = is_none (get m mac) && nat_le limit (len m)

-- a fixed entry, in place of any earlier one; a table without room for it stays
abbrev pub fix : ℕ → Place → List ℕ → Table → Table
fix limit place mac m = if is_full limit mac m then m else insert m mac (record { place = place; last = None })

-- the address has a fixed entry
abbrev pub has_fixed : List ℕ → Table → Bool
has_fixed mac m = passes is_fixed (get m mac)

-- the fixed entry goes; a learned one stays
abbrev pub unfix : List ℕ → Table → Table
unfix mac m = if has_fixed mac m then remove m mac else m

-- the learned entries of a place go
abbrev pub flush_place : Place → Table → Table
flush_place place m = kept (λ e. not (is_seen_at place e)) m

-- all learned entries go
abbrev pub flush : Table → Table
flush m = kept is_fixed m
