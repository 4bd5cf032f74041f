-- The line that is shown. It states no standard.
use Rattle.std.specs.Prelude.{ℕ, List, ◌++◌, codes, decimal, Option, Some, None}
use Rattle.capture_survey.specs.Report.{moment_text}
use Rattle.run_progress.specs.declared.shown.Shown.{Shown}

-- how much was read: a share of all, or else the octets
abbrev pub read_words : Option ℕ → ℕ → List ℕ
read_words (Some share) octets = codes " " ++ decimal share ++ codes " %"
read_words None octets = codes " " ++ decimal octets ++ codes " octets"

-- the whole line
abbrev pub shown_text : Shown → List ℕ
shown_text s =
    read_words s.share s.octets ++ codes ", " ++ decimal s.events ++ codes " events, "
    ++ decimal s.a_second ++ codes " a second, at " ++ moment_text s.moment ++ codes " s"
