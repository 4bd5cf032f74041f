-- Who reaches whom in a network. It states no standard.
--     moves, steps     where a broadcast goes from one segment, by what it came
--     Way              where broadcasts come to at last
--     IsPicture        what is told of a network
use Rattle.std.specs.Prelude.{◌≡◌, ◌↔◌, ◌⊎◌, ℕ, ◌+◌, ◌*◌, ◌/◌, ◌%◌, ◌<◌, ◌==◌, ◌&&◌, ◌||◌, Bool, true, false, not, List, length, filter, Option, Some, None, slice_get, if◌then◌else◌}
use Rattle.std.specs.List.{range_with_len}
use Rattle.std.specs.Option.{option_map_or}
use Rattle.wire.specs.declared.ip_udp.addr.Tunnel.{Tunnel}
use Rattle.wire.specs.declared.ip_udp.addr.Tunnel.TheVariants.{Vxlan, Geneve}
use Rattle.overlay.specs.Tunnels.{of_kind}
use Rattle.fabric_grid.specs.declared.cell.Cell.{Cell}
use Rattle.fabric_grid.specs.declared.cell.Cell.TheVariants.{Comes, Unanswered, Lost}
use Rattle.fabric_ways.specs.Hops.{hops, unanswered, hole}
use Rattle.fabric_ways.specs.Leads.{Leads, is_found}
use Rattle.fabric_ways.specs.declared.member.Member.{Member}
use Rattle.fabric_ways.specs.declared.ways.Picture.{Picture}
use Rattle.fabric_ways.specs.declared.ways.Picture.TheVariants.{Cyclic, Cells}

-- ---- states: the segment at place i of a network, and how a broadcast came to it. They are numbered: 3 * i where it came from a
-- local port, 3 * i + 1 by VXLAN, 3 * i + 2 by Geneve

-- the kind of the tunnel by which it came
abbrev pub came_of : ℕ → Option Tunnel
came_of state = if state % 3 == 1 then Some Vxlan else if state % 3 == 2 then Some Geneve else None

-- the horizon group of a segment's tunnel of a kind
abbrev pub group_of : Member → Tunnel → ℕ
group_of X kind = option_map_or (λ t. t.group) (of_kind kind X.tunnels) 0

-- a broadcast that came so is sent on into tunnels of a kind: it is local, or of another horizon group
abbrev pub passes : Member → Option Tunnel → Tunnel → Bool
passes X came kind = option_map_or (λ by. not (group_of X by == group_of X kind)) came true

-- a broadcast that came to X so is sent to another leaf's Y, and comes to it by a kind
abbrev pub moves : Member → Option Tunnel → Option Tunnel → Member → Bool
moves X came by Y = option_map_or (λ kind. not (X.leaf == Y.leaf) && (passes X came kind && hops X kind Y)) by false

-- one step leads from a state to another one
abbrev pub is_step : List Member → ℕ → ℕ → Bool
is_step N s t = option_map_or (λ X. option_map_or (moves X (came_of s) (came_of t)) (slice_get N (t / 3)) false) (slice_get N (s / 3)) false

-- the states to which one step leads
abbrev pub steps : List Member → ℕ → List ℕ
steps N s = filter (is_step N s) (range_with_len 0 (3 * length N))

-- ---- ways

-- broadcasts of the segment at place i come to that at place j
abbrev pub Way : List Member → ℕ → ℕ → Type 0
Way N i j = Leads (steps N) (3 * i) (3 * j + 1) ⊎ Leads (steps N) (3 * i) (3 * j + 2)

-- a broadcast goes round for ever
abbrev pub IsCyclic : List Member → Type 0
IsCyclic N = (s : ℕ) × Leads (steps N) s s

-- ---- the picture

-- what becomes of X's broadcasts at Y, where there is a way or isn't one. Of two segments of one leaf nothing is asked
abbrev pub cell : Member → Member → Bool → Cell
cell X Y way =
    if X.leaf == Y.leaf then Comes
    else if way then option_map_or (λ lost. Unanswered lost) (unanswered X Y) Comes
    else Lost (hole X Y)

-- the cell of the segments at two places, if they are there
abbrev pub cell_at : List Member → ℕ → ℕ → Bool → Option Cell
cell_at N i j way = option_map_or (λ X. option_map_or (λ Y. Some (cell X Y way)) (slice_get N j) None) (slice_get N i) None

-- a cell tells what becomes of the broadcasts of the segment at place i at that at place j
pub record IsCell (N : List Member) (i j : ℕ) (told : Option Cell) : Type 0 where
  pub way : Bool
  pub is_way : (way ≡ true) ↔ Way N i j
  pub is_told : told ≡ cell_at N i j way

-- the cells of a network of n segments, row by row: who sends, and in a row who hears
pub record AreCells (N : List Member) (cells : List Cell) : Type 0 where
  pub size : length cells ≡ length N * length N
  pub each : (i j : ℕ) → i < length N → j < length N → IsCell N i j (slice_get cells (i * length N + j))

-- what is told of a network: that a broadcast goes round for ever, or else its cells
abbrev pub IsPicture : List Member → Picture → Type 0
IsPicture N Cyclic = IsCyclic N
IsPicture N (Cells cells) = ((s : ℕ) → s < 3 * length N → Leads (steps N) s s → ⊥) × AreCells N cells.items

-- ---- how rows are told

-- a state that a segment's broadcasts lead to is one of the segment at place j
abbrev pub has_way : List Bool → ℕ → Bool
has_way found j = is_found found (3 * j + 1) || is_found found (3 * j + 2)

-- the cell of X at the segment at place j, where these states are reached
abbrev pub cell_in : Member → List Member → List Bool → ℕ → Option Cell
cell_in X N found j = option_map_or (λ Y. Some (cell X Y (has_way found j))) (slice_get N j) None

-- the first n cells of a row of X stand behind what was there
pub record HasRow (old new : List Cell) (X : Member) (N : List Member) (found : List Bool) (n : ℕ) : Type 0 where
  pub size : length new ≡ length old + n
  pub kept : (k : ℕ) → k < length old → slice_get new k ≡ slice_get old k
  pub cells : (j : ℕ) → j < n → slice_get new (length old + j) ≡ cell_in X N found j
