-- The lines that tell what is in a capture. It states no standard.
use Rattle.std.specs.Prelude.{ℕ, ◌==◌, ◌^◌, ◌*◌, ◌-◌, ◌/◌, ◌%◌, if◌then◌else◌, nat_le, nat_lt, ◌&&◌}
use Rattle.std.specs.Prelude.{Bool, true, false, List, [], ◌++◌, codes, decimal, Option, Some, None}
use Rattle.std.specs.Fmt.{format_spec, padded_integral}
use Rattle.pcap.specs.Style.{second}
use Rattle.pcap.specs.declared.text.style.Order.{Order}
use Rattle.pcap.specs.declared.text.style.Order.TheVariants.{Big, Little}
use Rattle.pcap.specs.declared.text.style.Precision.{Precision}
use Rattle.pcap.specs.declared.text.style.Precision.TheVariants.{Micro, Nano}
use Rattle.pcap.specs.declared.text.style.Style.{Style}
use Rattle.timeline.specs.Words.{tap_word}
use Rattle.timeline.specs.declared.source.Tap.{Tap}
use Rattle.timeline.specs.declared.source.Tap.TheVariants.{Port, Underlay}
use Rattle.capture_survey.specs.declared.echoes.Echoes.{Echoes}
use Rattle.capture_survey.specs.declared.report.Note.{Note}
use Rattle.capture_survey.specs.declared.report.Note.TheVariants as notes
use Rattle.capture_survey.specs.declared.report.Report.{Report}
use Rattle.capture_survey.specs.declared.tally.Span.{Span}

-- a number in at least nine digits, with zeros in front
abbrev pub nine_digits : ℕ → List ℕ
nine_digits n = padded_integral (format_spec 32 0 4 9 (2 ^ 64 - 1)) false [] (decimal n)

-- a moment as seconds, with nine digits behind the point
abbrev pub moment_text : ℕ → List ℕ
moment_text moment = decimal (moment / second) ++ codes "." ++ nine_digits (moment % second)

abbrev pub order_word : Order → List ℕ
order_word Big = codes "big-endian"
order_word Little = codes "little-endian"

-- what a fraction counts
abbrev pub precision_word : Precision → List ℕ
precision_word Micro = codes "microseconds"
precision_word Nano = codes "nanoseconds"

-- what a capture is, by how it writes its numbers; a pcapng one is read as a classic one, and its own interfaces and
-- sections may differ in that. The link type is always Ethernet's
unfoldable pub format_words : Bool → Style → List ℕ
format_words true style = codes "pcapng ethernet"
format_words false style = codes "pcap " ++ order_word style.order ++ codes " " ++ precision_word style.precision ++ codes " ethernet"

-- how many records there are
abbrev pub count_words : ℕ → List ℕ
count_words n = decimal n ++ codes " " ++ (if n == 1 then codes "record" else codes "records")

-- and from when to when
unfoldable pub summary_words : ℕ → Option Span → List ℕ
summary_words n None = count_words n
summary_words n (Some span) = count_words n ++ codes ", first " ++ moment_text span.first ++ codes ", last " ++ moment_text span.last

-- how often a note is so
abbrev pub note_count : Note → ℕ
note_count (notes.LeftOut count) = count
note_count (notes.Falls count) = count
note_count (notes.CutShort count) = count
note_count (notes.TooLong tap count) = count
note_count (notes.LeftToCard count) = count
note_count (notes.CutEnd is_cut) = if is_cut then 1 else 0

-- a note in words
abbrev pub note_words : Note → List ℕ
note_words (notes.LeftOut count) =
    if count == 1 then codes "left out 1 outbound packet" else codes "left out " ++ decimal count ++ codes " outbound packets"
note_words (notes.Falls count) =
    if count == 1 then codes "1 record earlier than one before it" else decimal count ++ codes " records earlier than one before them"
note_words (notes.CutShort count) = if count == 1 then codes "1 record cut at capture" else decimal count ++ codes " records cut at capture"
note_words (notes.TooLong (Port port) count) =
    if count == 1 then codes "1 frame longer than 65535 octets" else decimal count ++ codes " frames longer than 65535 octets"
note_words (notes.TooLong Underlay count) =
    if count == 1 then codes "1 packet longer than 65549 octets" else decimal count ++ codes " packets longer than 65549 octets"
note_words (notes.LeftToCard count) =
    if count == 1
    then codes "1 udp checksum left to the card: ethtool -K DEV tx off"
    else decimal count ++ codes " udp checksums left to the card: ethtool -K DEV tx off"
note_words (notes.CutEnd is_cut) = codes "ends in the middle of a record"

-- its line, where it is so
unfoldable pub line_text : Tap → Note → List ℕ
line_text tap note = if note_count note == 0 then [] else tap_word tap ++ codes ": " ++ note_words note ++ codes "\n"

-- the first line: what the capture is, and its records
unfoldable pub heading_text : Report → List ℕ
heading_text r =
    tap_word r.tap ++ codes ": " ++ format_words r.is_pcapng r.survey.style ++ codes ", "
    ++ summary_words r.survey.tally.records r.survey.tally.span ++ codes "\n"

-- the lines of what may be unmeant
unfoldable pub notes_text : Report → List ℕ
notes_text r =
    line_text r.tap (notes.LeftOut r.left_out)
    ++ line_text r.tap (notes.Falls r.survey.tally.falls)
    ++ line_text r.tap (notes.CutShort r.survey.tally.cut_short)
    ++ line_text r.tap (notes.TooLong r.tap r.survey.tally.too_long)
    ++ line_text r.tap (notes.LeftToCard r.survey.tally.left_to_card)
    ++ line_text r.tap (notes.CutEnd r.survey.is_cut)

-- all lines
abbrev pub report_text : Report → List ℕ
report_text r = heading_text r ++ notes_text r

-- at least one record in ten came in elsewhere before
abbrev pub are_many : ℕ → ℕ → Bool
are_many echoes records = nat_lt 0 echoes && nat_le records (echoes * 10)

-- what is said of such records at a tap
abbrev pub echo_words : Tap → List ℕ
echo_words (Port port) = codes "records came in elsewhere within 10 ms before"
echo_words Underlay = codes "packets left us"

-- its line, where they are many
unfoldable pub echoes_text : Echoes → List ℕ
echoes_text e =
    if are_many e.echoes e.records
    then tap_word e.tap ++ codes ": " ++ decimal e.echoes ++ codes " of " ++ decimal e.records ++ codes " " ++ echo_words e.tap
    ++ codes ": does this capture have what left, too? run --both, or tcpdump -Q in\n"
    else []
