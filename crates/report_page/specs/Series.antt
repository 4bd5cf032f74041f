-- Numbers of which there is one for each of the 64 spans of a run. It states no standard.
--     together, greatest      numbers in a row, summed, and the greatest of them
--     number_at      what is counted in a span
use Rattle.std.specs.Prelude.{ℕ, zero, suc, ◌+◌, ◌==◌, min, max, Bool, true, false, if◌then◌else◌, List, map, slice_index}
use Rattle.std.specs.List.{range_with_len, sum}
use Rattle.report_counts.specs.Outlets.{name_of}
use Rattle.report_counts.specs.Tables.{count_in, most}
use Rattle.report_counts.specs.declared.counts.ReportCounts.{ReportCounts}
use Rattle.report_page.specs.declared.series.Kind.{Kind}
use Rattle.report_page.specs.declared.series.Kind.TheVariants as kinds
use Rattle.report_page.specs.declared.series.Parted.{Parted}
use Rattle.report_page.specs.declared.series.Parted.TheVariants as parted

-- two numbers together, up to the greatest number of 64 bits
abbrev pub sum_of : ℕ → ℕ → ℕ
sum_of m n = min most (m + n)

-- those of so many numbers from 0 on
unfoldable pub together : (ℕ → ℕ) → ℕ → ℕ
together number count = min most (sum (map number (range_with_len 0 count)))

-- the greatest of those
unfoldable pub greatest : (ℕ → ℕ) → ℕ → ℕ
greatest number zero = 0
greatest number (suc count) = max (greatest number count) (number count)

-- an outlet is a local port: its name begins with `p`
abbrev pub is_port : List ℕ → Bool
is_port name = slice_index name 0 == 112

-- what left at an outlet in a span, where it is a local port or where it is none
abbrev pub left_where : Bool → ReportCounts → ℕ → ℕ → ℕ
left_where true c span outlet = if is_port (name_of outlet c.outlets.names) then count_in outlet span c.outlets.spans else 0
left_where false c span outlet = if is_port (name_of outlet c.outlets.names) then 0 else count_in outlet span c.outlets.spans

-- a part of what is summed in a span: of a port, of an outlet, of a segment
abbrev pub part_at : ReportCounts → Parted → ℕ → ℕ → ℕ
part_at c parted.Ports span number = count_in (number + 1) span c.sources.spans
part_at c parted.LocalOutlets span number = left_where true c span number
part_at c parted.RemoteOutlets span number = left_where false c span number
part_at c parted.Segments span number = count_in number span c.segments.dropped_spans

-- how many parts there are
abbrev pub parts_of : Parted → ℕ
parts_of parted.Ports = 255
parts_of parted.LocalOutlets = 513
parts_of parted.RemoteOutlets = 513
parts_of parted.Segments = 4095

-- what is counted in a span
abbrev pub number_at : ReportCounts → Kind → ℕ → ℕ
number_at c (kinds.Arrival source) span = count_in source span c.sources.spans
number_at c (kinds.Left outlet) span = count_in outlet span c.outlets.spans
number_at c (kinds.Events vid) span = count_in vid span c.segments.spans
number_at c (kinds.Reason reason) span = count_in reason span c.reasons.spans
number_at c (kinds.All parted) span = together (part_at c parted span) (parts_of parted)
