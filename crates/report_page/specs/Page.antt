-- The whole page. It states no standard of its own (HTML 5, SVG 2).
use Rattle.std.specs.Prelude.{ℕ, Bool, List}
use Rattle.report_counts.specs.declared.counts.ReportCounts.{ReportCounts}
use Rattle.report_page.specs.declared.page.TheConstants.{PAGE_HEAD, PAGE_STYLE, PAGE_BODY, PAGE_CONTENTS, PAGE_END}
use Rattle.report_page.specs.declared.style.TheConstants.{STYLE}
use Rattle.report_page.specs.Drops.{drops_text}
use Rattle.report_page.specs.Escaped.{escaped}
use Rattle.report_page.specs.Facts.{facts_text}
use Rattle.report_page.specs.FirstDrops.{first_drops_text}
use Rattle.report_page.specs.Matrix.{matrix_text}
use Rattle.report_page.specs.OverTime.{over_time}
use Rattle.report_page.specs.Places.{places_text}
use Rattle.report_page.specs.Segments.{segments_text}
use Rattle.report_page.specs.Short.{short_text}
use Rattle.report_page.specs.Texts.{◌then◌}
use Rattle.report_page.specs.Told.{told_text}

-- up to the list of contents
unfoldable pub front_text : List ℕ → List ℕ
front_text folder =
    PAGE_HEAD.now then escaped folder then PAGE_STYLE.now then STYLE.now then PAGE_BODY.now then escaped folder then PAGE_CONTENTS.now

-- the whole page
unfoldable pub page_text : ReportCounts → List ℕ → Bool → List ℕ → List ℕ
page_text c folder is_part told =
    front_text folder then facts_text c then short_text c is_part then over_time c then places_text c then segments_text c then drops_text c
    then matrix_text c then told_text told then first_drops_text c then PAGE_END.now
