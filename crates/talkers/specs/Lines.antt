-- The lines of who talks to whom: one talk a line, its words with one space between them, as
-- `talk 10 02:00:00:00:00:01 p1 > 02:00:00:00:00:02 vxlan:192.0.2.2 12 5120 first 1000000000 last 9000000000`; with `short 3` at
-- its end where up to 3 frames of the talk may have come before the first. It states no standard.
use Rattle.std.specs.Prelude.{ℕ, ◌==◌, if◌then◌else◌, List, [], ◌∷◌, ◌++◌, codes, decimal}
use Rattle.std.specs.List.{flat_map}
use Rattle.change_story.specs.Words.{mac_text, place_text}
use Rattle.ranked_rows.specs.Frequent.{Frequent}
use Rattle.ranked_rows.specs.declared.key_count.KeyCount.{KeyCount}
use Rattle.ranked_rows.specs.declared.since.Since.{Since}
use Rattle.talkers.specs.Order.{largest_first}
use Rattle.talkers.specs.declared.rows.passed.Passed.{Passed}
use Rattle.talkers.specs.declared.rows.talk.Exit.{Exit}
use Rattle.talkers.specs.declared.rows.talk.Exit.TheVariants.{To, Flood, Drop}
use Rattle.talkers.specs.declared.rows.talk.Talk.{Talk}

-- where frames went
abbrev pub exit_text : Exit → List ℕ
exit_text (To place) = place_text place
exit_text Flood = codes "flood"
exit_text Drop = codes "drop"

-- who sent to whom
unfoldable pub talk_text : Talk → List ℕ
talk_text t =
    decimal t.vid ++ codes " " ++ mac_text t.source ++ codes " " ++ place_text t.from ++ codes " > " ++ mac_text t.destination
    ++ codes " " ++ exit_text t.to

-- how much, from when to when
abbrev pub passed_text : Passed → List ℕ
passed_text p =
    codes " " ++ decimal p.frames ++ codes " " ++ decimal p.octets ++ codes " first " ++ decimal p.first ++ codes " last "
    ++ decimal p.last

-- how many frames may have come before those, where any may
unfoldable pub short_text : ℕ → List ℕ
short_text n = if n == 0 then [] else codes " short " ++ decimal n

-- of one row
unfoldable pub talk_line : KeyCount Talk (Since Passed) → List ℕ
talk_line row = codes "talk " ++ talk_text row.key ++ passed_text row.counts.counts ++ short_text row.counts.before ++ 10 ∷ []

-- of the others; nothing where nothing passed
unfoldable pub others_line : Passed → List ℕ
others_line p = if p.frames == 0 then [] else codes "talk others" ++ passed_text p ++ 10 ∷ []

-- ---- all of it

abbrev pub talks_text : Frequent Talk Passed → List ℕ
talks_text t = flat_map talk_line (largest_first t.rows) ++ others_line t.others
