-- What the lines of a summary tell, one by one. It states no standard.
--     row_in      a line without its line feed; nothing where it is none of a summary
--     rows_of      the lines of a text, in order
--     with_row, told_by      the counts behind what a line tells, and behind many
-- A line is read here by its words alone: whether it is written as it has to be is seen where the counts are written again.
use Rattle.std.specs.Prelude.{ℕ, ◌==◌, ◌&&◌, nat_le, if◌then◌else◌, List, [], ◌∷◌, ◌++◌, codes, Option, Some, None}
use Rattle.std.specs.List.{filter_map}
use Rattle.std.specs.Option.{option_and_then}
use Rattle.wire.specs.Octets.{is_same}
use Rattle.timeline.specs.declared.source.Tap.{Tap}
use Rattle.timeline.specs.declared.source.Tap.TheVariants.{Port, Underlay}
use Rattle.endpoint_core.specs.Fault.{number_of as fault_number}
use Rattle.endpoint_core.specs.Counts.{is_mark}
use Rattle.line_words.specs.Words.{word, behind}
use Rattle.line_words.specs.Lines.{whole_lines}
use Rattle.line_words.specs.Numbers.{number_of}
use Rattle.run_counts.specs.Totals.{same_tap}
use Rattle.run_counts.specs.declared.flow.Flow.{Flow}
use Rattle.run_counts.specs.Told.{Told}
use Rattle.run_counts.specs.Kept.{is_kept}
use Rattle.run_counts.specs.declared.parts.row.Row.{Row}
use Rattle.run_counts.specs.declared.parts.row.Row.TheVariants.{Count, Refused, Arrival, Left, Partial, Cut}
-- a number of 8 bits, and that of a word
pub use Rattle.line_words.specs.Numbers.{byte_of, octet_of as small}

-- ---- words

-- p1 is a port, and any other word the underlay
abbrev pub tap_of : List ℕ → Option Tap
tap_of [] = None
tap_of (c ∷ cs) = if c == 112 then option_and_then (λ port. Some (Port port)) (small cs) else Some Underlay

-- a number that is a VID (IEEE 802.1Q, 9.6)
abbrev pub vid_of : ℕ → Option ℕ
vid_of number = if nat_le 1 number && nat_le number 4094 then Some number else None

-- a VID, or none
abbrev pub segment_of : List ℕ → Option (Option ℕ)
segment_of text =
    if is_same text (codes "none") then Some None
    else option_and_then (λ number. option_and_then (λ vid. Some (Some vid)) (vid_of number)) (number_of text)

-- ---- lines

-- NUMBER NAME N
abbrev pub dropped_in : Option ℕ → List ℕ → Option Row
dropped_in segment text =
    option_and_then (λ number. option_and_then (λ count. Some (Count segment number count))
    (number_of (behind (behind text)))) (small (word text))

-- sent N, dropped NUMBER NAME N
abbrev pub count_of : Option ℕ → List ℕ → Option Row
count_of segment text =
    if is_same (word text) (codes "sent") then option_and_then (λ count. Some (Count segment 0 count)) (number_of (behind text))
    else dropped_in segment (behind text)

-- V, and then that
abbrev pub count_in : List ℕ → Option Row
count_in text = option_and_then (λ segment. count_of segment (behind text)) (segment_of (word text))

-- NUMBER NAME N
abbrev pub refused_in : List ℕ → Option Row
refused_in text =
    option_and_then (λ number. option_and_then (λ count. Some (Refused number count))
    (number_of (behind (behind text)))) (small (word text))

-- N OCTETS
abbrev pub flow_by : List ℕ → Option Flow
flow_by text =
    option_and_then (λ frames. option_and_then (λ octets. Some (record { frames = frames; octets = octets }))
    (number_of (behind text))) (number_of (word text))

-- P in N OCTETS, P out N OCTETS
abbrev pub flow_in : List ℕ → Option Row
flow_in text =
    option_and_then (λ tap. option_and_then (λ flow. if is_same (word (behind text)) (codes "in")
    then Some (Arrival tap flow) else Some (Left tap flow)) (flow_by (behind (behind text)))) (tap_of (word text))

-- partial N
abbrev pub partial_in : List ℕ → Option Row
partial_in text = option_and_then (λ count. Some (Partial count)) (number_of (behind text))

-- P, and then a number
abbrev pub cut_in : List ℕ → Option Row
cut_in text = option_and_then (λ tap. Some (Cut tap)) (tap_of (word text))

-- what a line tells, by its first word
unfoldable pub row_in : List ℕ → Option Row
row_in line =
    if is_same (word line) (codes "segment") then count_in (behind line)
    else if is_same (word line) (codes "change") then refused_in (behind (behind line))
    else if is_same (word line) (codes "place") then flow_in (behind line)
    else if is_same (word line) (codes "checksum") then partial_in (behind line)
    else if is_same (word line) (codes "cut") then cut_in (behind line)
    else None

-- those of a text
abbrev pub rows_of : List ℕ → List Row
rows_of text = filter_map row_in (whole_lines text)

-- ---- counts

-- what a line tells stands in place of what was told before
abbrev pub with_row : Told → Row → Told
with_row t (Count segment number count) = record {
  counts = λ s n. if is_mark s n (record { segment = segment; number = number }) && is_kept s n then count else t.counts s n;
  totals = t.totals;
  cut = t.cut;
}
with_row t (Refused number count) = record {
  counts = t.counts;
  totals = record {
    came = t.totals.came;
    left = t.totals.left;
    refused = λ fault. if fault_number fault == number then count else t.totals.refused fault;
    partial = t.totals.partial;
  };
  cut = t.cut;
}
with_row t (Arrival tap flow) = record {
  counts = t.counts;
  totals = record {
    came = λ at. if same_tap at tap then flow else t.totals.came at;
    left = t.totals.left;
    refused = t.totals.refused;
    partial = t.totals.partial;
  };
  cut = t.cut;
}
with_row t (Left tap flow) = record {
  counts = t.counts;
  totals = record {
    came = t.totals.came;
    left = λ at. if same_tap at tap then flow else t.totals.left at;
    refused = t.totals.refused;
    partial = t.totals.partial;
  };
  cut = t.cut;
}
with_row t (Partial count) = record {
  counts = t.counts;
  totals = record { came = t.totals.came; left = t.totals.left; refused = t.totals.refused; partial = count };
  cut = t.cut;
}
with_row t (Cut tap) = record { counts = t.counts; totals = t.totals; cut = t.cut ++ tap ∷ [] }

-- one line after another
abbrev pub told_by : Told → List Row → Told
told_by t [] = t
told_by t (row ∷ rows) = told_by (with_row t row) rows
