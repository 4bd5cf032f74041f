-- What is told first. It states no standard.
use Rattle.std.specs.Prelude.{ℕ, ◌-◌, ◌/◌, ◌%◌, List, codes, decimal, slice_index}
use Rattle.report_counts.specs.declared.counts.ReportCounts.{ReportCounts}
use Rattle.report_page.specs.Moment.{moment_text}
use Rattle.report_page.specs.Path.{height_of}
use Rattle.report_page.specs.Series.{together}
use Rattle.report_page.specs.Texts.{◌then◌}

-- a fact and its number
unfoldable pub fact_text : List ℕ → ℕ → List ℕ
fact_text label number = codes "<div><dt>" then label then codes "</dt><dd>" then decimal number then codes "</dd></div>\n"

-- a moment, to the second and in nanoseconds
unfoldable pub moment_fact : List ℕ → ℕ → List ℕ
moment_fact label moment =
    codes "<div><dt>" then label then codes "</dt><dd>" then moment_text moment then codes "<small>" then decimal moment
    then codes " ns</small></dd></div>\n"

-- how many frames and packets came: all events but changes
abbrev pub came : ReportCounts → ℕ
came c = c.events - slice_index c.sources.events 0

-- how many of them were dropped, and their share
unfoldable pub dropped_fact : ℕ → ℕ → List ℕ
dropped_fact dropped came =
    codes "<div><dt>Dropped</dt><dd>" then decimal dropped then codes "<small>" then decimal (height_of came dropped / 10) then codes "."
    then decimal (height_of came dropped % 10) then codes " % of " then decimal came then codes " that came</small></dd></div>\n"

-- how many changes were refused, whatever the causes
abbrev pub refused_all : ReportCounts → ℕ
refused_all c = together (λ cause. slice_index c.refused (cause % 256)) 256

-- all of it: what came, what became of it, what became of changes, and from when to when
unfoldable pub facts_text : ReportCounts → List ℕ
facts_text c =
    codes "<dl>\n" then fact_text (codes "Events") c.events then fact_text (codes "Frames and packets that left") c.sent
    then dropped_fact c.dropped (came c) then fact_text (codes "Not sent at an outlet") c.unsent
    then fact_text (codes "Changes done") c.done then fact_text (codes "Changes refused") (refused_all c)
    then moment_fact (codes "First moment") c.stretch.first then moment_fact (codes "Last moment") c.stretch.last then codes "</dl>\n"
