-- The lines that tell what a run left out, and what it forgot for want of room. They state no standard.
use Rattle.std.specs.Prelude.{ℕ, ◌==◌, ◌-◌, ◌*◌, ◌/◌, ◌%◌, nat_lt, if◌then◌else◌, List, [], ◌++◌, codes, decimal, Option, Some, None}
use Rattle.both_ways.specs.Told.{tap_at}
use Rattle.both_ways.specs.declared.left_out.Cause.{Cause}
use Rattle.both_ways.specs.declared.left_out.Cause.TheVariants.{Echo, Sent}
use Rattle.both_ways.specs.declared.left_out.LeftOut.{LeftOut}
use Rattle.both_ways.specs.declared.line.ForgottenLine.{ForgottenLine}
use Rattle.echo_window.specs.Echo.{Window}
use Rattle.timeline.specs.Words.{tap_word}

-- what it tells of a window: nothing of one that forgot nothing
abbrev pub line_of : Window → Option ForgottenLine
line_of w = if w.forgotten.count == 0 then None else Some (record { within = w.within; forgotten = w.forgotten })

-- a time as a command line names it, in the greatest unit up to a millisecond of which it is a whole number
abbrev pub time_text : ℕ → List ℕ
time_text time =
    if time % 1000000 == 0 then decimal (time / 1000000) ++ codes "ms"
    else if time % 1000 == 0 then decimal (time / 1000) ++ codes "us"
    else decimal time ++ codes "ns"

-- the greatest time up to another that is whole milliseconds; of less than one, whole microseconds; of less than one, itself
abbrev pub rounded : ℕ → ℕ
rounded time = if nat_lt time 1000 then time else if nat_lt time 1000000 then time / 1000 * 1000 else time / 1000000 * 1000000

-- how many frames
abbrev pub count_text : ℕ → List ℕ
count_text count = if count == 1 then codes "1 frame was" else decimal count ++ codes " frames were"

-- the greatest such time below the least age at which one of them went, if there is one
abbrev pub remedy_text : Option ℕ → List ℕ
remedy_text None = []
remedy_text (Some age) = if age == 0 then [] else codes ": --within " ++ time_text (rounded (age - 1)) ++ codes " would fit"

-- the line
abbrev pub line_text : ForgottenLine → List ℕ
line_text l =
    codes "both: " ++ count_text l.forgotten.count ++ codes " forgotten before " ++ time_text l.within ++ codes " had passed"
    ++ remedy_text l.forgotten.least_age

-- a record, by its place and its number there
abbrev pub number_text : ℕ → ℕ → List ℕ
number_text place number = tap_word (tap_at place) ++ codes " " ++ decimal number

-- why a record at this moment isn't input: which one brought the frame that it is an echo of, and how much sooner; or that the
-- endpoint sent it
abbrev pub cause_text : ℕ → Cause → List ℕ
cause_text moment (Echo o) = codes " of " ++ number_text o.place o.number ++ codes ", " ++ time_text (moment - o.moment)
cause_text moment Sent = codes " sent"

-- the line of a record that isn't input
abbrev pub left_out_text : LeftOut → List ℕ
left_out_text l = number_text l.place l.number ++ cause_text l.moment l.cause
