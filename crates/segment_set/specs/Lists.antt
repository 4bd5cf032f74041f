-- What a list of segments means, such as `10,20-29,none`. It states no standard.
--     item_in      what stands between two commas
--     meaning      the segments of a whole list, or its first fault
use Rattle.std.specs.Prelude.{◌≡◌, ◌≤◌, ℕ, ◌+◌, ◌-◌, ◌*◌, ◌==◌, nat_eq, nat_lt, nat_le, ◌&&◌}
use Rattle.std.specs.Prelude.{if◌then◌else◌, Bool, true, false, List, [], ◌∷◌, ◌++◌, codes, drop}
use Rattle.std.specs.Prelude.{length, replicate, slice_range, take, Option, Some, None, Result, Ok, Err}
use Rattle.std.specs.Char.{is_ascii_digit}
use Rattle.std.specs.List.{after_first, before_first, list_any, position_or_len, slice_split}
use Rattle.std.specs.Cmp.Lexicographic.{pointwise}
use Rattle.segment_set.specs.Segments.{Segments, All, Only, segments_of}
use Rattle.segment_set.specs.declared.fault.ListFault.{ListFault}
use Rattle.segment_set.specs.declared.fault.ListFault.TheVariants.{Empty, BadVid, BadRange, Doubled}
use Rattle.segment_set.specs.declared.item.Item.{Item}
use Rattle.segment_set.specs.declared.item.Item.TheVariants.{Vids, Nowhere}
use Rattle.segment_set.specs.declared.set.Picked.{Picked}

-- the same text
abbrev pub is_text : List ℕ → List ℕ → Bool
is_text a b = pointwise nat_eq a b

-- what stands before the first of a character and behind it, where there is one
abbrev pub cut : ℕ → List ℕ → Option (List ℕ × List ℕ)
cut mark text =
    if nat_lt (position_or_len (λ c. c == mark) text) (length text)
    then Some (before_first (λ c. c == mark) text, after_first (λ c. c == mark) text) else None

-- ---- an item

-- the number of some digits behind others; None where one is no digit
abbrev pub number_behind : ℕ → List ℕ → Option ℕ
number_behind n [] = Some n
number_behind n (d ∷ ds) = if is_ascii_digit d then number_behind (10 * n + (d - 48)) ds else None

-- a number that is a VID
abbrev pub only_vid : Option ℕ → Option ℕ
only_vid None = None
only_vid (Some n) = if nat_le 1 n && nat_le n 4094 then Some n else None

-- the VID of a text: a decimal of 1 to 4094
abbrev pub vid_in : List ℕ → Option ℕ
vid_in text = only_vid (number_behind 0 text)

-- one VID
abbrev pub one_vid : Option ℕ → Result Item ListFault
one_vid (Some vid) = Ok (Vids vid vid)
one_vid None = Err BadVid

-- from a VID to one that isn't below it
abbrev pub vid_range : Option ℕ → Option ℕ → Result Item ListFault
vid_range (Some first) (Some last) = if nat_lt last first then Err BadRange else Ok (Vids first last)
vid_range (Some first) None = Err BadVid
vid_range None last = Err BadVid

-- a VID, or two with a hyphen between them
abbrev pub vids_in : List ℕ → Option (List ℕ × List ℕ) → Result Item ListFault
vids_in text None = one_vid (vid_in text)
vids_in text (Some parts) = vid_range (vid_in parts.0) (vid_in parts.1)

-- the word `none`, or VIDs; nothing is no item
abbrev pub item_in : List ℕ → Result Item ListFault
item_in text =
    if length text == 0 then Err Empty
    else (if is_text text (codes "none") then Ok Nowhere else vids_in text (cut 45 text))

-- an item's VIDs are some, and in order
abbrev pub AreVids : Item → Type 0
AreVids (Vids first last) = (1 ≤ first) × (first ≤ last) × (last ≤ 4094)
AreVids Nowhere = Unit {0}

-- ---- items together

-- nothing is asked for
abbrev pub nothing : Segments
nothing = Only (replicate 4096 false) false

-- something of an item is asked for already
abbrev pub meets : Segments → Item → Bool
meets All item = true
meets (Only vids none) (Vids first last) = list_any (λ asked. asked) (slice_range vids first (last + 1))
meets (Only vids none) Nowhere = none

-- the segments with those of an item
abbrev pub with_item : Segments → Item → Segments
with_item All item = All
with_item (Only vids none) (Vids first last) = Only (take first vids ++ replicate (last + 1 - first) true ++ drop (last + 1) vids) none
with_item (Only vids none) Nowhere = Only vids true

-- each thing is asked for once
abbrev pub with_once : Segments → Item → Result Segments ListFault
with_once s item = if meets s item then Err Doubled else Ok (with_item s item)

-- the segments with those of the item that a text is
abbrev pub with_text : Segments → Result Item ListFault → Result Segments ListFault
with_text s (Ok item) = with_once s item
with_text s (Err fault) = Err fault

-- the segments with those of several texts; or the first fault
abbrev pub with_texts : Segments → List (List ℕ) → Result Segments ListFault
with_texts s [] = Ok s
with_texts s (text ∷ texts) = elim (with_text s (item_in text)) [ Ok more ↦ with_texts more texts | Err fault ↦ Err fault ]

-- ---- a list

-- the word `all`; or items with commas between them, none of which asks for what another does
abbrev pub meaning : List ℕ → Result Segments ListFault
meaning text = if is_text text (codes "all") then Ok All else with_texts nothing (slice_split (λ c. c == 44) text)

-- ---- in the program

-- what was picked, or why nothing was
abbrev pub told : Result Picked ListFault → Result Segments ListFault
told (Ok p) = Ok (segments_of (Some p))
told (Err fault) = Err fault

-- what a step leaves, or why it is refused
abbrev pub Leaves : Segments → Result (Unit {0}) ListFault → Result Segments ListFault → Type 0
Leaves new (Ok x) found = found ≡ Ok new
Leaves new (Err fault) found = found ≡ Err fault
