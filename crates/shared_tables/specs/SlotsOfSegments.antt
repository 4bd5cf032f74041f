-- What holds of the slots and the segments together. It states no standard.
use Rattle.std.specs.Prelude.{◌≡◌, ℕ, ◌+◌, ◌-◌, ◌<◌, ◌≤◌, Bool, true, false, List, []}
use Rattle.std.specs.Prelude.{◌∷◌, length, Option, Some, None, slice_index_or, slice_set}
use Rattle.std.specs.Option.{option_map}
use Rattle.std.specs.List.{sum_by}
use Rattle.shared_tables.specs.Pool.{Held}
use Rattle.shared_tables.specs.declared.links.Links.{Links}
use Rattle.shared_tables.specs.declared.threads.Ends.{Ends}
use Rattle.shared_tables.specs.declared.share.Share.{Share}
use Rattle.shared_tables.specs.Pool.{free_count}
use Rattle.shared_tables.specs.LinkSteps.{ends_without, ends_with, AreEnds}
use Rattle.shared_tables.specs.Line.{IsThread}
use Rattle.shared_tables.specs.Shared.{Rule, line_key, last_at, IsUnique}

-- the share of a segment
abbrev pub share_at : List (Option Share) → ℕ → Option Share
share_at shares vid = slice_index_or shares vid None

-- the ends of the list of the fixed entries, or of the age queue
abbrev pub line_at : Share → Bool → Ends
line_at share true = share.fixed
line_at share false = share.queue

-- a share with another line
abbrev pub with_line : Share → Bool → Ends → Share
with_line share true ends = record share { fixed = ends }
with_line share false ends = record share { queue = ends }

-- how many entries a share counts
abbrev pub share_count : Option Share → ℕ
share_count None = 0
share_count (Some share) = share.count

-- the most that it may count
abbrev pub share_limit : Option Share → ℕ
share_limit None = 0
share_limit (Some share) = share.limit

-- the rule of a share
abbrev pub rule_of : Share → Rule
rule_of share = record { limit = share.limit; ageing = share.ageing }

-- the share counts an entry
abbrev pub CountsSome : Option Share → Type 0
CountsSome None = ⊥
CountsSome (Some share) = 0 < share.count

-- a line of the share has both its ends, or neither
abbrev pub HasEnds : Option Share → Bool → Type 0
HasEnds None fixed = Unit {0}
HasEnds (Some share) fixed = AreEnds (line_at share fixed)

-- the share may count one more
abbrev pub CountsMore : Option Share → Type 0
CountsMore None = ⊥
CountsMore (Some share) = share.count < share.limit

-- a share without an entry that had these neighbours on its line
abbrev pub share_without : Bool → Links → Share → Share
share_without fixed own share = record (with_line share fixed (ends_without (line_at share fixed) own)) { count = share.count - 1 }

-- a share in place of another; where there is none, nothing
abbrev pub share_written : List (Option Share) → ℕ → Option Share → List (Option Share)
share_written shares vid None = shares
share_written shares vid (Some share) = slice_set shares vid (Some share)

-- the shares when an entry has left its line
abbrev pub shares_without : List (Option Share) → ℕ → Bool → Links → List (Option Share)
shares_without shares vid fixed own = share_written shares vid (option_map (share_without fixed own) (share_at shares vid))

-- a share with another entry behind the last of a line
abbrev pub share_with : Bool → ℕ → Share → Share
share_with fixed slot share = record (with_line share fixed (ends_with (line_at share fixed) slot)) { count = share.count + 1 }

-- the shares when an entry has come to the end of a line of its segment
abbrev pub shares_with : List (Option Share) → ℕ → Bool → ℕ → List (Option Share)
shares_with shares vid fixed slot = share_written shares vid (option_map (share_with fixed slot) (share_at shares vid))

-- the last slot of a line
abbrev pub last_in : Option Share → Bool → Option ℕ
last_in None fixed = None
last_in (Some share) fixed = (line_at share fixed).last

-- a share when an entry that had these neighbours has left one of its lines for the end of the other, or of the same
abbrev pub share_moved : Bool → Bool → Links → ℕ → Share → Share
share_moved was fixed own slot share =
    let left = with_line share was (ends_without (line_at share was) own) in
    with_line left fixed (ends_with (line_at left fixed) slot)

-- the shares when an entry that had these neighbours has left a line of its segment for the end of a line
abbrev pub shares_moved : List (Option Share) → ℕ → Bool → Bool → Links → ℕ → List (Option Share)
shares_moved shares vid was fixed own slot = share_written shares vid (option_map (share_moved was fixed own slot) (share_at shares vid))

-- the last slot of a line when an entry has left one
abbrev pub last_left : Option Share → Bool → Bool → Links → Option ℕ
last_left None was fixed own = None
last_left (Some share) was fixed own = (line_at (with_line share was (ends_without (line_at share was) own)) fixed).last

-- that line has both its ends then, or neither
abbrev pub HasEndsLeft : Option Share → Bool → Bool → Links → Type 0
HasEndsLeft None was fixed own = Unit {0}
HasEndsLeft (Some share) was fixed own = AreEnds (line_at (with_line share was (ends_without (line_at share was) own)) fixed)

-- the entries were last seen in this order, from one moment to another
abbrev pub IsAged : List (Option Held) → ℕ → List ℕ → ℕ → Type 0
IsAged entries low [] high = low ≤ high
IsAged entries low (i ∷ is) high = (low ≤ last_at entries i) × IsAged entries (last_at entries i) is high

-- the two lines of a segment
pub record IsLines (entries : List (Option Held)) (lines : List Links) (vid : ℕ) (share : Share) (moment : ℕ) : Type 0 where
  pub list : Bool → List ℕ
  pub thread : (fixed : Bool)
      → IsThread lines entries (line_key vid fixed) (line_at share fixed).first (line_at share fixed).last (list fixed)
  pub aged : IsAged entries 0 (list false) moment
  pub count : share.count ≡ length (list true) + length (list false)
  pub limit : share.count ≤ share.limit
  pub some_time : 0 < share.ageing

-- each slot is free, or on one line of its segment; there are at least as many slots as
-- the limits sum to
pub record IsSound (entries : List (Option Held)) (lines : List Links) (shares : List (Option Share)) (moment : ℕ) : Type 0 where
  pub line_links : length lines ≡ length entries
  pub shares_length : length shares ≡ 4096
  pub lined : (vid : ℕ) (share : Share) → share_at shares vid ≡ Some share → IsLines entries lines vid share moment
  pub unique : IsUnique entries
  pub free : free_count entries + sum_by share_count shares ≡ length entries
  pub room : sum_by share_limit shares ≤ length entries
