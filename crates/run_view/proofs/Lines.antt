-- What is told of events, item by item: their lines, and the records that came.
use Rattle.std.proofs.Common.{◌≡◌, ◌∙◌, ap, refl, ℕ, ◌≤◌, Bool, List, [], ◌∷◌, ◌++◌, length, append_assoc, append-nil, take_all, Option, Some, None, Result, Ok, Err}
use Rattle.std.specs.List.{AllByRecursion, flat_map}
use Rattle.std.proofs.lemmas.List.Concat.{flat_map-append}
use Rattle.wire.specs.declared.ether.reason.Reason.{Reason}
use Rattle.pcap.specs.Record.{Record}
use Rattle.overlay.specs.declared.settings.change.TimedChange.{TimedChange}
use Rattle.timeline.specs.declared.event.Event.{Event}
use Rattle.endpoint_core.specs.Decision.{Sent}
use Rattle.endpoint_core.specs.Step.{Answer, Decided, Replied}
use Rattle.stream_run.specs.Sights.{Sight}
use Rattle.decision_lines.specs.Lines.{answer_text, line_front}
use Rattle.decision_objects.specs.Onlooking.{named_in}
use Rattle.run_view.specs.Run.{IsShort, IsShortReply, items_in, line_in, line_told, record_in, reply_items, reply_line, reply_record, run_items}
use Rattle.run_view.specs.Reading.{read_at}
use Rattle.run_view.specs.Blocks.{comment_of, longest_comment}
use Rattle.run_view.specs.Told.{told_text}
use Rattle.run_view.specs.View.{left_by, left_items, seen_of}
use Rattle.run_view.specs.declared.seen.Seen.{Seen}

-- ---- what left has no line, and isn't read

left_line : (ports : ℕ) (seen : Seen) (two : Bool) (o : Sent) (r : Result (List ℕ) Reason) → flat_map line_told (left_by ports seen two o r) ≡ []
left_line ports seen two o (Ok octets) = refl
left_line ports seen two o (Err reason) = refl

left_lines : (ports : ℕ) (seen : Seen) (two : Bool) (outcomes : List Sent) → flat_map line_told (flat_map (left_items ports seen two) outcomes) ≡ []
left_lines ports seen two [] = refl
left_lines ports seen two (o ∷ os) =
    flat_map-append line_told (left_items ports seen two o) (flat_map (left_items ports seen two) os)
    ∙ ap (λ (t : List ℕ). t ++ flat_map line_told (flat_map (left_items ports seen two) os)) (left_line ports seen two o o.sent) ∙ left_lines ports seen two os

left_read : (q ports : ℕ) (seen : Seen) (two : Bool) (o : Sent) (r : Result (List ℕ) Reason) → flat_map (read_at q) (left_by ports seen two o r) ≡ []
left_read q ports seen two o (Ok octets) = refl
left_read q ports seen two o (Err reason) = refl

left_reads : (q ports : ℕ) (seen : Seen) (two : Bool) (outcomes : List Sent) → flat_map (read_at q) (flat_map (left_items ports seen two) outcomes) ≡ []
left_reads q ports seen two [] = refl
left_reads q ports seen two (o ∷ os) =
    flat_map-append (read_at q) (left_items ports seen two o) (flat_map (left_items ports seen two) os)
    ∙ ap (λ (t : List Record). t ++ flat_map (read_at q) (flat_map (left_items ports seen two) os)) (left_read q ports seen two o o.sent) ∙ left_reads q ports seen two os

-- ---- lines

comment_whole : (text : List ℕ) → length text ≤ longest_comment → comment_of text ≡ text
unfolding comment_of
comment_whole text h = take_all longest_comment text h

-- a comment and the end of a line are the line
line_whole : (front answer : List ℕ) → length (front ++ answer) ≤ longest_comment → comment_of (front ++ answer) ++ 10 ∷ [] ≡ front ++ (answer ++ 10 ∷ [])
line_whole front answer h = ap (λ (t : List ℕ). t ++ 10 ∷ []) (comment_whole (front ++ answer) h) ∙ append_assoc front answer (10 ∷ [])

one_line : (ports : ℕ) (changes : List TimedChange) (number : ℕ) (e : Event) (r : Option Answer) → IsShortReply changes number e r
    → flat_map line_told (reply_items ports changes number e r) ≡ reply_line changes number e r
one_line ports changes number e (Some (Decided d)) h =
    let seen = seen_of ports changes number e in
    ap (λ (t : List ℕ). (comment_of (told_text seen.origin seen.named (Decided d)) ++ 10 ∷ []) ++ t) (left_lines ports seen d.two_tunnels d.outcomes)
    ∙ append-nil (comment_of (told_text seen.origin seen.named (Decided d)) ++ 10 ∷ [])
    ∙ line_whole (line_front number e) (answer_text (named_in changes e) (Decided d)) h
one_line ports changes number e (Some (Replied fault)) h =
    let seen = seen_of ports changes number e in
    append-nil (comment_of (told_text seen.origin seen.named (Replied fault)) ++ 10 ∷ [])
    ∙ line_whole (line_front number e) (answer_text (named_in changes e) (Replied fault)) h
one_line ports changes number e None h = refl

pub all_lines : (ports : ℕ) (changes : List TimedChange) (seen : List Sight) → AllByRecursion (IsShort changes) seen
    → flat_map line_told (run_items ports changes seen) ≡ flat_map (line_in changes) seen
all_lines ports changes [] h = refl
all_lines ports changes (s ∷ seen) h =
    flat_map-append line_told (items_in ports changes s) (run_items ports changes seen)
    ∙ ap (λ (t : List ℕ). t ++ flat_map line_told (run_items ports changes seen)) (one_line ports changes s.number s.event s.reply h.0)
    ∙ ap (λ (t : List ℕ). line_in changes s ++ t) (all_lines ports changes seen h.1)

-- ---- records

one_record : (ports q : ℕ) (changes : List TimedChange) (number : ℕ) (e : Event) (r : Option Answer)
    → flat_map (read_at q) (reply_items ports changes number e r) ≡ reply_record ports q changes number e r
one_record ports q changes number e (Some (Decided d)) =
    let seen = seen_of ports changes number e in
    ap (λ (t : List Record). reply_record ports q changes number e (Some (Decided d)) ++ t) (left_reads q ports seen d.two_tunnels d.outcomes)
    ∙ append-nil (reply_record ports q changes number e (Some (Decided d)))
one_record ports q changes number e (Some (Replied fault)) = refl
one_record ports q changes number e None = refl

pub all_records : (ports q : ℕ) (changes : List TimedChange) (seen : List Sight)
    → flat_map (read_at q) (run_items ports changes seen) ≡ flat_map (record_in ports q changes) seen
all_records ports q changes [] = refl
all_records ports q changes (s ∷ seen) =
    flat_map-append (read_at q) (items_in ports changes s) (run_items ports changes seen)
    ∙ ap (λ (t : List Record). t ++ flat_map (read_at q) (run_items ports changes seen)) (one_record ports q changes s.number s.event s.reply)
    ∙ ap (λ (t : List Record). record_in ports q changes s ++ t) (all_records ports q changes seen)
